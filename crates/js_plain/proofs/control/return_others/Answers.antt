use Rattle.std.proofs.Common.{◌≡◌, ℕ, nat_eq, true, sym, ap, ◌∙◌}
use Rattle.js_body.specs.State.{depth}
use Rattle.js_body.specs.StepLaws.{if_true, if_false, parts_same}
use Rattle.js_plain.specs.Control.{results_returned, several_returned}
use Rattle.js_plain.proofs.control.return_others.Goals as goal

pub returns-then-is_none : goal.returns-then-is_none
returns-then-is_none c = (
  c.return_results.ensures.0,
  λ l s t h.
      let w : nat_eq (depth s) 0 ≡ true = sym (c.is_none.ensures ∙ ap (λ (n : ℕ). nat_eq n 0) (c.depth.ensures s t)) ∙ c.if-is_none.true in
      parts_same _ _ _ _ _ _ _ _ (if_true (nat_eq (depth s) 0) (results_returned s) (several_returned s) w) (c.return_results.ensures.1 l s t (h w)),
)

pub returns-else-is_none : goal.returns-else-is_none
returns-else-is_none c = (
  c.return_several.ensures.0,
  λ l s t h. parts_same _ _ _ _ _ _ _ _ (if_false (nat_eq (depth s) 0) (results_returned s) (several_returned s) (sym (c.is_none.ensures ∙ ap (λ (n : ℕ). nat_eq n 0) (c.depth.ensures s t)) ∙ c.if-is_none.false)) (c.return_several.ensures.1 l s t),
)
