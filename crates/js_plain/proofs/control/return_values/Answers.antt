use Rattle.std.proofs.Common.{ℕ, nat_eq, sym, ap, ◌∙◌}
use Rattle.js_body.specs.State.{depth}
use Rattle.js_body.specs.StepLaws.{if_true, if_false, parts_same}
use Rattle.js_plain.specs.Control.{value_returned, others_returned}
use Rattle.js_plain.proofs.control.return_values.Goals as goal

pub returns-then-is_one : goal.returns-then-is_one
returns-then-is_one c = (
  c.return_one.ensures.0,
  λ l s t h. parts_same _ _ _ _ _ _ _ _ (if_true (nat_eq (depth s) 1) (value_returned s) (others_returned s) (sym (c.is_one.ensures ∙ ap (λ (n : ℕ). nat_eq n 1) (c.depth.ensures s t)) ∙ c.if-is_one.true)) (c.return_one.ensures.1 l s t),
)

pub returns-else-is_one : goal.returns-else-is_one
returns-else-is_one c = (
  c.return_others.ensures.0,
  λ l s t h. parts_same _ _ _ _ _ _ _ _ (if_false (nat_eq (depth s) 1) (value_returned s) (others_returned s) (sym (c.is_one.ensures ∙ ap (λ (n : ℕ). nat_eq n 1) (c.depth.ensures s t)) ∙ c.if-is_one.false)) (c.return_others.ensures.1 l s t h),
)
