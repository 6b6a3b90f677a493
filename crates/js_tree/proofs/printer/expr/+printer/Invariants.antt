use Rattle.std.proofs.Common.{◌≡◌, ◌++◌, ◌+◌, ◌*◌, max, Bool, true, false, drop, map, List, ℕ}
use Rattle.js_tree.specs.declared.tree.JsExpr.{size-JsExpr}
use Rattle.js_tree.specs.declared.tree.JsExprs.{size-JsExprs}
use Rattle.js_tree.specs.View.{expr_view, exprs_of}
use Rattle.js_tree.specs.Printed.{exprs_text, more_text}
use Rattle.js_tree.specs.Script.{Exprs}
use Rattle.js_tree.proofs.printer.expr.+printer.Given as goal

-- the text of what is left of a list
abbrev left_text : Bool → Exprs → List ℕ
left_text true es = exprs_text es
left_text false es = more_text es

abbrev pub invariant-exprs-loop-e : goal.invariant-exprs-loop-e
invariant-exprs-loop-e l = l.out ++ left_text l.is_first (exprs_of (map expr_view (drop l.e-index l.e-items))) ≡ l.initial.out ++ exprs_text (exprs_of (map expr_view l.e-items))

abbrev pub decreases-expr : goal.decreases-expr
decreases-expr l = 4 * size-JsExpr l.e.now

abbrev pub decreases-exprs : goal.decreases-exprs
decreases-exprs l = 4 * size-JsExprs l.es.now

abbrev pub decreases-within : goal.decreases-within
decreases-within l = 4 * size-JsExpr l.e.now + 1

abbrev pub decreases-before_dot : goal.decreases-before_dot
decreases-before_dot l = 4 * size-JsExpr l.e.now + 2

abbrev pub decreases-infix : goal.decreases-infix
decreases-infix l = 4 * max (size-JsExpr l.a.now) (size-JsExpr l.b.now) + 3

abbrev pub decreases-conditional : goal.decreases-conditional
decreases-conditional l = 4 * max (size-JsExpr l.test.now) (max (size-JsExpr l.a.now) (size-JsExpr l.b.now)) + 3

abbrev pub decreases-call : goal.decreases-call
decreases-call l = 4 * max (size-JsExpr l.f.now) (size-JsExprs l.es.now) + 3

abbrev pub decreases-index : goal.decreases-index
decreases-index l = 4 * max (size-JsExpr l.a.now) (size-JsExpr l.i.now) + 3

abbrev pub decreases-char_code_at : goal.decreases-char_code_at
decreases-char_code_at l = 4 * max (size-JsExpr l.a.now) (size-JsExpr l.i.now) + 3

abbrev pub decreases-substring : goal.decreases-substring
decreases-substring l = 4 * max (size-JsExpr l.a.now) (max (size-JsExpr l.i.now) (size-JsExpr l.j.now)) + 3
