use Rattle.std.proofs.Common.{arith, ◌≡◌, ◌≤◌, ◌<◌, ◌+◌, ◌*◌, ◌^◌, ◌∙◌, ap, sym, subst, ℕ, true, false, length, drop, get_or, ◌==◌}
use Rattle.std.proofs.lemmas.Bool.Decides.{nat_tests}
use Rattle.go_typing.specs.Literal.{digit_of, digits_from}
use Rattle.go_operands.specs.Whole.{cut}
use Rattle.go_operands.proofs.LiteralLemmas.{cut_within, step_digit, step_past}
use Rattle.go_operands.proofs.scopes.literal.digits.Goals as goal
use Rattle.go_operands.proofs.scopes.literal.digits.Goals.{then-b-ne95, else-b-ne95}

pub loop-b-preserved : goal.loop-b-preserved
loop-b-preserved c =
    let low : c.loop-b.b-index < length c.args.text.now = omega arith in
    elim c.if-b-ne95.branch [
      | then-b-ne95 w ↦
          let other : (get_or c.args.text.now c.loop-b.b-index 0 == 95) ≡ false = grind (arith, nat_tests) in
          let grown : c.if-b-ne95.value ≡ cut (c.loop-b.value * c.args.base + digit_of (get_or c.args.text.now c.loop-b.b-index 0)) = cc in
          record {
            same = step_digit c.args.base c.loop-b.value c.if-b-ne95.value c.loop-b.b-index c.args.text.now c.requires low other grown ∙ c.loop-b.invariant.same;
            within = subst (λ (n : ℕ). n ≤ 2 ^ 127) (sym grown) (cut_within (c.loop-b.value * c.args.base + digit_of (get_or c.args.text.now c.loop-b.b-index 0)));
          }
      | else-b-ne95 w ↦
          let this : (get_or c.args.text.now c.loop-b.b-index 0 == 95) ≡ true = grind (arith, nat_tests) in
          let stays : c.if-b-ne95.value ≡ c.loop-b.value = w.value-is in
          record {
            same = ap (λ (n : ℕ). cut (digits_from c.args.base n (drop (c.loop-b.b-index + 1) c.args.text.now))) stays ∙ step_past c.args.base c.loop-b.value c.loop-b.b-index c.args.text.now low this ∙ c.loop-b.invariant.same;
            within = subst (λ (n : ℕ). n ≤ 2 ^ 127) (sym stays) c.loop-b.invariant.within;
          }
    ]
