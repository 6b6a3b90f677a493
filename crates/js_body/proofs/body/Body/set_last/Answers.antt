use Rattle.std.proofs.Common.{◌≡◌, ℕ, ◌-◌, true, false, List, length, reverse, Option, None, arith, sym, ap, ◌∙◌, subst}
use Rattle.js_tree.specs.Script.{Expr}
use Rattle.js_pool.specs.Stands.{opened}
use Rattle.js_pool.specs.declared.node.Stmt.{Stmt}
use Rattle.js_body.specs.State.{last_value, is_temporary, set_by}
use Rattle.js_body.specs.Tells.{around, MayStand, stands_none, LinesAre}
use Rattle.js_body.specs.StepLaws.{if_true, if_false, parts_depth}
use Rattle.js_body.proofs.body.Body.set_last.Goals as goal

pub returns-then-is_temporary : goal.returns-then-is_temporary
unfolding opened
returns-then-is_temporary c s t =
    let b = c.args.self.now in
    let d = parts_depth b.pool (opened b.pool) b.stack.items b.temps b.declared.items (around b) s t in
    let e : c.saturating_sub-place.result ≡ length s.stack - 1 = omega (arith, d, b.stack.ok.0) in
    let k : is_temporary (last_value s).known ≡ true = ap is_temporary (sym (c.last.ensures s t).known) ∙ sym c.is_temporary.ensures ∙ c.if-is_temporary.true in
    let h = c.set_by.ensures b.pool s.lines (subst (λ (xs : List Stmt). LinesAre b.pool (reverse xs) s.lines) (sym c.as_slice.ensures.value) t.lines) in
    subst (λ (z : Option Expr). MayStand b.pool c.set_by.result z) (if_true (is_temporary (last_value s).known) (set_by (length s.stack - 1) s.lines) None k) (subst (λ (n : ℕ). MayStand b.pool c.set_by.result (set_by n s.lines)) e h)

pub returns-else-is_temporary : goal.returns-else-is_temporary
returns-else-is_temporary c s t =
    let k : is_temporary (last_value s).known ≡ false = ap is_temporary (sym (c.last.ensures s t).known) ∙ sym c.is_temporary.ensures ∙ c.if-is_temporary.false in
    subst (λ (z : Option Expr). MayStand c.args.self.now.pool None z) (if_false (is_temporary (last_value s).known) (set_by (length s.stack - 1) s.lines) None k) stands_none
