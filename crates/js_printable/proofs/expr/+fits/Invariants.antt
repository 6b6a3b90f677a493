use Rattle.std.proofs.Common.{◌≡◌, ◌+◌, ◌*◌, max, true, drop, map}
use Rattle.js_tree.specs.declared.tree.JsExpr.{size-JsExpr}
use Rattle.js_tree.specs.declared.tree.JsExprs.{size-JsExprs}
use Rattle.js_tree.specs.View.{expr_view, exprs_of}
use Rattle.js_tree.specs.Printable.{exprs_fit}
use Rattle.js_printable.proofs.expr.+fits.Given as goal

-- where those that are left fit, all do
abbrev pub invariant-exprs-loop-e : goal.invariant-exprs-loop-e
invariant-exprs-loop-e l =
    exprs_fit l.d (exprs_of (map expr_view (drop l.e-index l.e-items))) ≡ true → exprs_fit l.d (exprs_of (map expr_view l.e-items)) ≡ true

abbrev pub decreases-expr : goal.decreases-expr
decreases-expr l = 4 * size-JsExpr l.e.now

abbrev pub decreases-exprs : goal.decreases-exprs
decreases-exprs l = 4 * size-JsExprs l.es.now

abbrev pub decreases-within : goal.decreases-within
decreases-within l = 4 * size-JsExpr l.e.now + 1

abbrev pub decreases-dotted : goal.decreases-dotted
decreases-dotted l = 4 * size-JsExpr l.a.now + 2

abbrev pub decreases-infix : goal.decreases-infix
decreases-infix l = 4 * max (size-JsExpr l.a.now) (size-JsExpr l.b.now) + 3
