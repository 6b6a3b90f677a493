use Rattle.std.proofs.Common.{◌<◌, ℕ, sym, ap, ◌∙◌, subst}
use Rattle.std.specs.Prelude.{◌==◌, ◌||◌}
use Rattle.std.specs.Char.{is_ascii_alphabetic}
use Rattle.go_lexer.proofs.LetterLemmas.{at-ascii}
use Rattle.go_lexer.proofs.step.step_at.Goals as goal

-- a letter below 128 begins a name
pub returns-then-is_ascii_letter-clause-value : goal.returns-then-is_ascii_letter-clause-value
returns-then-is_ascii_letter-clause-value c =
    let lt = subst (λ (n : ℕ). n < 128) c.byte_at-b.ensures.value c.if-b-lt128.true in
    let e = ap (λ (b : ℕ). b == 95 || is_ascii_alphabetic b) (sym c.byte_at-b.ensures.value) ∙ sym c.if-is_ascii_letter.ensures in
    c.name_step.ensures.value ∙ sym (at-ascii c.args.text.now lt e)
