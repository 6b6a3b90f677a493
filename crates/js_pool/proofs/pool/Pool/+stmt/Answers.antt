use Rattle.std.proofs.Common.{List, map, subst}
use Rattle.std.proofs.lemmas.List.{take_all}
use Rattle.js_tree.specs.Script as script
use Rattle.js_tree.specs.View.{stmt_view, stmts_view, stmts_of, case_view, cases_of}
use Rattle.js_pool.specs.Says.{AllSay, AllCases}
use Rattle.js_pool.specs.declared.node.Stmt.{Stmt}
use Rattle.js_pool.specs.declared.node.Case.{Case}
use Rattle.js_pool.specs.Says as says
use Rattle.js_pool.proofs.More.{say_more, case_more, block_else}
use Rattle.js_pool.proofs.pool.Pool.+stmt.Goals as goal

pub stmt_trees-loop-i-init : goal.stmt_trees-loop-i-init
stmt_trees-loop-i-init t c = rw c.new-items.ensures.items says.none

pub stmt_trees-loop-i-preserved : goal.stmt_trees-loop-i-preserved
stmt_trees-loop-i-preserved t c = say_more _ _ c.loop-i.i c.in_ok-s.s c.loop-i.items.items _ c.in_ok-tree.tree c.in_ok-s.ensures c.in_ok-push.ensures.items c.loop-i.invariant c.in_ok-tree.ensures

pub stmt_trees-returns : goal.stmt_trees-returns
stmt_trees-returns t c = rw c.stmts.ensures (says.held (rw c.as_slice.ensures.value at c.in_ok-lines.ensures) (subst (λ (xs : List Stmt). AllSay c.args.self.now xs (stmts_of (map stmt_view c.loop-i.items.items))) (take_all c.loop-i.i c.in_ok-lines.lines.now c.loop-i-test.false) c.loop-i.invariant))

pub case_trees-loop-i-init : goal.case_trees-loop-i-init
case_trees-loop-i-init t c last = rw c.new-items.ensures.items says.no_case

pub case_trees-loop-i-preserved : goal.case_trees-loop-i-preserved
case_trees-loop-i-preserved t c = case_more _ _ c.loop-i.i c.in_ok-c.c c.loop-i.items.items _ c.in_ok-case.case c.in_ok-c.ensures c.in_ok-push.ensures.items c.loop-i.invariant c.in_ok-case.ensures

pub case_trees-returns-in-None : goal.case_trees-returns-in-None
case_trees-returns-in-None t c = rw (c.in-None.is, c.cases.ensures) (says.bare (rw c.as_slice.ensures.value at c.in_ok-arms.ensures) (subst (λ (xs : List Case). AllCases c.args.self.now script.no_cases xs (cases_of (map case_view c.loop-i.items.items) script.no_cases)) (take_all c.loop-i.i c.in_ok-arms.arms.now c.loop-i-test.false) (c.loop-i.invariant script.no_cases)))

pub case_trees-returns-in_ok-block-in-Some : goal.case_trees-returns-in_ok-block-in-Some
case_trees-returns-in_ok-block-in-Some t c = rw (c.in-Some.is, c.cases_default.ensures) (says.and_default (rw c.as_slice.ensures.value at c.in_ok-arms.ensures) c.in_ok-block-in-Some.ensures (subst (λ (xs : List Case). AllCases c.args.self.now (script.default (stmts_view c.in_ok-block-in-Some.block)) xs (cases_of (map case_view c.loop-i.items.items) (script.default (stmts_view c.in_ok-block-in-Some.block)))) (take_all c.loop-i.i c.in_ok-arms.arms.now c.loop-i-test.false) (c.loop-i.invariant (script.default (stmts_view c.in_ok-block-in-Some.block)))))

pub case_tree-returns : goal.case_tree-returns
case_tree-returns t c = rw c.case.ensures (says.one_case c.in_ok-body.ensures)

pub tail-returns-in-Nothing : goal.tail-returns-in-Nothing
tail-returns-in-Nothing t c = rw (c.in-Nothing.is, c.nothing.ensures) says.nothing

pub block_tail-returns-in_ok-body-in-None : goal.block_tail-returns-in_ok-body-in-None
block_tail-returns-in_ok-body-in-None t c = rw c.other.ensures (block_else _ _ _ c.in-None.ensures c.in_ok-body-in-None.ensures)

pub block_tail-returns-in-Some : goal.block_tail-returns-in-Some
block_tail-returns-in-Some t c = c.else_if.ensures c.in-Some.ensures

pub else_if-returns : goal.else_if-returns
else_if-returns t c h = rw (c.other_if.ensures, c.in_ok-next.ensures.ok, c.next_if.ensures) (says.other (says.held h (says.more (says.branch c.in_ok-test.ensures c.in_ok-body.ensures c.in_ok-rest.ensures) says.none)))

pub stmt_tree-returns-in_ok-other-in-If : goal.stmt_tree-returns-in_ok-other-in-If
stmt_tree-returns-in_ok-other-in-If t c = rw (c.in-If.is, c.when.ensures) (says.branch c.in_ok-test-in-If.ensures c.in_ok-body-in-If.ensures c.in_ok-other-in-If.ensures)

pub stmt_tree-returns-in_ok-label-in-While : goal.stmt_tree-returns-in_ok-label-in-While
stmt_tree-returns-in_ok-label-in-While t c = rw (c.in-While.is, c.turns.ensures, c.in_ok-label-in-While.ensures) (says.while c.in_ok-test-in-While.ensures c.in_ok-body-in-While.ensures)

pub stmt_tree-returns-in_ok-label-in-Forever : goal.stmt_tree-returns-in_ok-label-in-Forever
stmt_tree-returns-in_ok-label-in-Forever t c = rw (c.in-Forever.is, c.forever.ensures, c.in_ok-label-in-Forever.ensures) (says.forever c.in_ok-body-in-Forever.ensures)

pub stmt_tree-returns-in_ok-label-in-Switch : goal.stmt_tree-returns-in_ok-label-in-Switch
stmt_tree-returns-in_ok-label-in-Switch t c = rw (c.in-Switch.is, c.switch.ensures, c.in_ok-label-in-Switch.ensures) (says.switch c.in_ok-tag-in-Switch.ensures c.in_ok-cases-in-Switch.ensures)

pub stmt_tree-returns-in_ok-caught-in-Try : goal.stmt_tree-returns-in_ok-caught-in-Try
stmt_tree-returns-in_ok-caught-in-Try t c = rw (c.in-Try.is, c.attempt.ensures) (says.attempt c.in_ok-body-in-Try.ensures c.in_ok-caught-in-Try.ensures)
