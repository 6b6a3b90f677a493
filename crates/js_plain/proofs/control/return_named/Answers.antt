use Rattle.std.proofs.Common.{ℕ, nat_eq, length, sym, ap, ◌∙◌}
use Rattle.js_body.specs.StepLaws.{if_true, if_false, parts_same}
use Rattle.js_plain.specs.Control.{first_returned, all_returned}
use Rattle.js_plain.proofs.control.return_named.Goals as goal

pub returns-then-is_one : goal.returns-then-is_one
returns-then-is_one c = (
  c.return_first.ensures.0,
  λ l s t h. parts_same _ _ _ _ _ _ _ _ (if_true (nat_eq (length s.around.results) 1) (first_returned s) (all_returned s) (sym (c.is_one.ensures ∙ ap (λ (n : ℕ). nat_eq n 1) (c.result_count.ensures s t)) ∙ c.if-is_one.true)) (c.return_first.ensures.1 l s t h),
)

pub returns-else-is_one : goal.returns-else-is_one
returns-else-is_one c = (
  c.return_all.ensures.0,
  λ l s t h. parts_same _ _ _ _ _ _ _ _ (if_false (nat_eq (length s.around.results) 1) (first_returned s) (all_returned s) (sym (c.is_one.ensures ∙ ap (λ (n : ℕ). nat_eq n 1) (c.result_count.ensures s t)) ∙ c.if-is_one.false)) (c.return_all.ensures.1 l s t h),
)
