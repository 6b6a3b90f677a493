use Rattle.std.proofs.Common.{◌+◌, ◌*◌, map, take}
use Rattle.js_tree.specs.View.{expr_view, exprs_of}
use Rattle.js_pool.specs.Stands.{AllStand}
use Rattle.js_pool.proofs.pool.Pool.+expr.Given as goal

abbrev pub decreases-boxed : goal.decreases-boxed
decreases-boxed l = 5 * l.depth + 1

abbrev pub decreases-node_tree : goal.decreases-node_tree
decreases-node_tree l = 5 * l.depth + 4

abbrev pub decreases-expr_trees : goal.decreases-expr_trees
decreases-expr_trees l = 5 * l.depth + 2

abbrev pub decreases-expr_within : goal.decreases-expr_within
decreases-expr_within l = 5 * l.depth

abbrev pub decreases-member_tree : goal.decreases-member_tree
decreases-member_tree l = 5 * l.depth + 3

abbrev pub invariant-expr_trees-loop-i : goal.invariant-expr_trees-loop-i
invariant-expr_trees-loop-i l = AllStand l.self (take l.i l.ids) (exprs_of (map expr_view l.items.items))
