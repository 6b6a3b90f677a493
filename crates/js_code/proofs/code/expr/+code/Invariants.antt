use Rattle.std.proofs.Common.{◌≡◌, ◌+◌, ◌*◌, drop, map}
use Rattle.js_tree.specs.View.{expr_view, exprs_of}
use Rattle.js_code.specs.Places.{table}
use Rattle.js_code.specs.Parts.{last}
use Rattle.js_code.specs.ExprParts.{with_exprs}
use Rattle.js_code.proofs.code.expr.+code.Given as goal

abbrev pub invariant-add_exprs-loop-i : goal.invariant-add_exprs-loop-i
invariant-add_exprs-loop-i l =
    (l.code ≡ with_exprs (table l.scope) l.fn.code (exprs_of (map expr_view (drop l.i l.items)))) × (l.rest ≡ last l.code)

abbrev pub decreases-add_expr : goal.decreases-add_expr
decreases-add_expr l = 3 * l.depth

abbrev pub decreases-add_two : goal.decreases-add_two
decreases-add_two l = 3 * l.depth + 1

abbrev pub decreases-add_three : goal.decreases-add_three
decreases-add_three l = 3 * l.depth + 2

abbrev pub decreases-add_exprs : goal.decreases-add_exprs
decreases-add_exprs l = 3 * l.depth + 1
