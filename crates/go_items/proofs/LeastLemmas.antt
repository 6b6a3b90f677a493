-- The least fault, one after the other.
use Rattle.std.proofs.Common.{arith, ◌≡◌, ◌<◌, ◌+◌, ℕ, suc, ◌∙◌, sym, ap, List, ◌∷◌, length, drop, map, get_or}
use Rattle.std.proofs.Math.Seq.{drop-cons}
use Rattle.go_operands.specs.declared.answers.answer.Flaw as answers
use Rattle.go_operands.specs.AnswerView.{flaw_view}

pub next_at : (xs : List answers.Flaw) (i : ℕ) (x : answers.Flaw) → i < length xs → x ≡ get_or xs i x → map flaw_view (drop i xs) ≡ flaw_view x ∷ map flaw_view (drop (i + 1) xs)
next_at xs i x h e =
    let one : suc i ≡ i + 1 = omega arith in
    ap (map flaw_view) (drop-cons xs i x h)
    ∙ ap (λ (y : answers.Flaw). flaw_view y ∷ map flaw_view (drop (suc i) xs)) (sym e)
    ∙ ap (λ (n : ℕ). flaw_view x ∷ map flaw_view (drop n xs)) one
