use Rattle.std.proofs.Common.{ℕ, nat_eq, length, None, refl, sym, ap, ◌∙◌}
use Rattle.js_pool.specs.Says as say
use Rattle.js_pool.specs.declared.node.Stmt.TheVariants as line
use Rattle.js_body.specs.State.{with_line}
use Rattle.js_body.specs.Tells.{around, said}
use Rattle.js_body.specs.StepLaws.{if_true, if_false, parts_line, parts_same}
use Rattle.js_plain.specs.Control.{none_line, named_returned}
use Rattle.js_plain.proofs.control.return_results.Goals as goal

pub returns-then-is_none : goal.returns-then-is_none
returns-then-is_none c =
    let b = c.args.b.now in
    let q = c.leave.new.self in (
      c.leave.ensures.0,
      λ l s t h.
          parts_same _ _ _ _ _ _ _ _ (if_true (nat_eq (length s.around.results) 0) (with_line none_line s) (named_returned s) (sym (c.is_none.ensures ∙ ap (λ (n : ℕ). nat_eq n 0) (c.result_count.ensures s t)) ∙ c.if-is_none.true))
          (parts_line b.pool q b.stack.items b.temps b.declared.items (around b) s (line.Return None) none_line c.leave.ensures l (said refl say.leave) t),
    )

pub returns-else-is_none : goal.returns-else-is_none
returns-else-is_none c = (
  c.return_named.ensures.0,
  λ l s t h. parts_same _ _ _ _ _ _ _ _ (if_false (nat_eq (length s.around.results) 0) (with_line none_line s) (named_returned s) (sym (c.is_none.ensures ∙ ap (λ (n : ℕ). nat_eq n 0) (c.result_count.ensures s t)) ∙ c.if-is_none.false)) (c.return_named.ensures.1 l s t h),
)
