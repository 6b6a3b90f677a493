use Rattle.std.proofs.Common.{◌<◌, ℕ, sym, ap, ◌∙◌, subst}
use Rattle.std.specs.Prelude.{◌==◌, ◌||◌}
use Rattle.std.specs.Char.{is_ascii_alphabetic, is_ascii_digit}
use Rattle.go_lexer.proofs.Choices.{if_true, if_false}
use Rattle.go_lexer.proofs.LetterLemmas.{name_width-ascii}
use Rattle.go_lexer.proofs.chars.name_width.Goals as goal

pub returns-then-is_ascii_name-clause-value : goal.returns-then-is_ascii_name-clause-value
returns-then-is_ascii_name-clause-value c =
    let lt = subst (λ (n : ℕ). n < 128) c.byte_at-b.ensures.value c.if-b-lt128.true in
    let e = ap (λ (b : ℕ). (b == 95 || is_ascii_alphabetic b) || is_ascii_digit b) (sym c.byte_at-b.ensures.value) ∙ sym c.if-is_ascii_name.ensures in
    sym (name_width-ascii c.args.text.now lt ∙ if_true _ _ e)

pub returns-else-is_ascii_name-clause-value : goal.returns-else-is_ascii_name-clause-value
returns-else-is_ascii_name-clause-value c =
    let lt = subst (λ (n : ℕ). n < 128) c.byte_at-b.ensures.value c.if-b-lt128.true in
    let e = ap (λ (b : ℕ). (b == 95 || is_ascii_alphabetic b) || is_ascii_digit b) (sym c.byte_at-b.ensures.value) ∙ sym c.if-is_ascii_name.ensures in
    sym (name_width-ascii c.args.text.now lt ∙ if_false _ _ e)
