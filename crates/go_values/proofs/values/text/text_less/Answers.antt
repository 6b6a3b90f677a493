use Rattle.std.proofs.Common.{arith, Ordering, ◌≡◌, ◌∙◌, refl, List, ℕ}
use Rattle.std.proofs.lemmas.Cmp.{same_from_slice_cmp}
use Rattle.std.proofs.lemmas.Bool.Decides.{nat_tests}
use Rattle.std.specs.Ordering.{nat_cmp, is_lt}
use Rattle.std.specs.Cmp.Lexicographic.{slice_cmp}
use Rattle.go_core.specs.Text.{text_less}
use Rattle.go_values.proofs.values.text.text_less.Goals as goal

is_less : (xs ys : List ℕ) (o : Ordering) → o ≡ slice_cmp nat_cmp xs ys → is_lt o ≡ text_less xs ys
is_less = same_from_slice_cmp nat_cmp is_lt text_less refl (λ _ _. refl) (λ _ _. refl) (λ x y xs ys o h. grind (arith, nat_tests))

pub returns : goal.returns
returns c = record { value = c.is_lt.ensures ∙ is_less c.args.s.now c.args.t.now c.cmp.result c.cmp.ensures }
