use Rattle.std.proofs.Common.{◌∙◌, sym, ap}
use Rattle.std.specs.Prelude.{◌||◌, Bool, nat_le}
use Rattle.go_state.proofs.ranges.entries.is_passed.Goals as goal

pub returns-then-is_in : goal.returns-then-is_in
returns-then-is_in c = record {
  value = λ p g. c.if-is_in.true ∙ sym (ap (λ (b : Bool). b || nat_le c.args.since c.args.birth) (sym (c.is_in.ensures.value p g) ∙ c.if-is_in.true));
}

pub returns-else-is_in : goal.returns-else-is_in
returns-else-is_in c = record {
  value = λ p g. sym (ap (λ (b : Bool). b || nat_le c.args.since c.args.birth) (sym (c.is_in.ensures.value p g) ∙ c.if-is_in.false));
}
