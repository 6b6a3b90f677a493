use Rattle.std.proofs.Common.{◌+◌, ◌*◌, map, take}
use Rattle.js_tree.specs.Script as script
use Rattle.js_tree.specs.View.{stmt_view, stmts_of, case_view, cases_of}
use Rattle.js_pool.specs.Says.{AllSay, AllCases}
use Rattle.js_pool.proofs.pool.Pool.+stmt.Given as goal

abbrev pub decreases-stmt_trees : goal.decreases-stmt_trees
decreases-stmt_trees l = 6 * l.depth

abbrev pub decreases-case_tree : goal.decreases-case_tree
decreases-case_tree l = 6 * l.depth + 1

abbrev pub decreases-case_trees : goal.decreases-case_trees
decreases-case_trees l = 6 * l.depth + 2

abbrev pub decreases-else_if : goal.decreases-else_if
decreases-else_if l = 6 * l.depth + 1

abbrev pub decreases-block_tail : goal.decreases-block_tail
decreases-block_tail l = 6 * l.depth + 2

abbrev pub decreases-tail : goal.decreases-tail
decreases-tail l = 6 * l.depth + 3

abbrev pub decreases-stmt_tree : goal.decreases-stmt_tree
decreases-stmt_tree l = 6 * l.depth + 4

abbrev pub invariant-stmt_trees-loop-i : goal.invariant-stmt_trees-loop-i
invariant-stmt_trees-loop-i l = AllSay l.self (take l.i l.lines) (stmts_of (map stmt_view l.items.items))

abbrev pub invariant-case_trees-loop-i : goal.invariant-case_trees-loop-i
invariant-case_trees-loop-i l = (last : script.Cases) → AllCases l.self last (take l.i l.arms) (cases_of (map case_view l.items.items) last)
