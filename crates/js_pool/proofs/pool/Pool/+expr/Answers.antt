use Rattle.std.proofs.Common.{List, map, subst}
use Rattle.std.proofs.lemmas.List.{take_all}
use Rattle.std.proofs.lemmas.Result.{IfOk-weaker}
use Rattle.js_tree.specs.View.{expr_view, exprs_of}
use Rattle.js_pool.specs.Stands as stands
use Rattle.js_pool.specs.Stands.{AllStand}
use Rattle.js_pool.specs.declared.node.ExprId.{ExprId}
use Rattle.js_pool.proofs.More.{stand_more}
use Rattle.js_pool.proofs.pool.Pool.+expr.Goals as goal

pub expr_within-returns : goal.expr_within-returns
expr_within-returns t c = IfOk-weaker c.node_tree.result _ _ (λ e s. stands.at_node c.in_ok-node.ensures s) c.node_tree.ensures

pub expr_trees-loop-i-init : goal.expr_trees-loop-i-init
expr_trees-loop-i-init t c = rw c.new-items.ensures.items stands.none

pub expr_trees-loop-i-preserved : goal.expr_trees-loop-i-preserved
expr_trees-loop-i-preserved t c = stand_more _ _ c.loop-i.i c.in_ok-id.id c.loop-i.items.items _ c.in_ok-e.e c.in_ok-id.ensures c.in_ok-push.ensures.items c.loop-i.invariant c.in_ok-e.ensures

pub expr_trees-returns : goal.expr_trees-returns
expr_trees-returns t c = rw c.exprs.ensures (stands.held (rw c.as_slice.ensures.value at c.in_ok-ids.ensures) (subst (λ (es : List ExprId). AllStand c.args.self.now es (exprs_of (map expr_view c.loop-i.items.items))) (take_all c.loop-i.i c.in_ok-ids.ids.now c.loop-i-test.false) c.loop-i.invariant))

pub node_tree-returns-in_ok-a-in-Unary : goal.node_tree-returns-in_ok-a-in-Unary
node_tree-returns-in_ok-a-in-Unary t c = rw (c.in-Unary.is, c.unary.ensures) (stands.unary c.in_ok-a-in-Unary.ensures)

pub node_tree-returns-in_ok-b-in-Binary : goal.node_tree-returns-in_ok-b-in-Binary
node_tree-returns-in_ok-b-in-Binary t c = rw (c.in-Binary.is, c.binary.ensures) (stands.binary c.in_ok-a-in-Binary.ensures c.in_ok-b-in-Binary.ensures)

pub node_tree-returns-in_ok-b-in-And : goal.node_tree-returns-in_ok-b-in-And
node_tree-returns-in_ok-b-in-And t c = rw (c.in-And.is, c.both.ensures) (stands.both c.in_ok-a-in-And.ensures c.in_ok-b-in-And.ensures)

pub node_tree-returns-in_ok-b-in-Or : goal.node_tree-returns-in_ok-b-in-Or
node_tree-returns-in_ok-b-in-Or t c = rw (c.in-Or.is, c.either.ensures) (stands.either c.in_ok-a-in-Or.ensures c.in_ok-b-in-Or.ensures)

pub node_tree-returns-in_ok-c-in-Conditional : goal.node_tree-returns-in_ok-c-in-Conditional
node_tree-returns-in_ok-c-in-Conditional t c = rw (c.in-Conditional.is, c.choice.ensures) (stands.choice c.in_ok-a-in-Conditional.ensures c.in_ok-b-in-Conditional.ensures c.in_ok-c-in-Conditional.ensures)

pub node_tree-returns-in_ok-arguments-in-Call : goal.node_tree-returns-in_ok-arguments-in-Call
node_tree-returns-in_ok-arguments-in-Call t c = rw (c.in-Call.is, c.call.ensures) (stands.call c.in_ok-callee-in-Call.ensures c.in_ok-arguments-in-Call.ensures)

pub node_tree-returns-in_ok-items-in-Array : goal.node_tree-returns-in_ok-items-in-Array
node_tree-returns-in_ok-items-in-Array t c = rw (c.in-Array.is, c.array.ensures) (stands.array c.in_ok-items-in-Array.ensures)

pub member_tree-returns-in_ok-i-in-Index : goal.member_tree-returns-in_ok-i-in-Index
member_tree-returns-in_ok-i-in-Index t c = rw (c.in-Index.is, c.index.ensures) (stands.index c.in_ok-a-in-Index.ensures c.in_ok-i-in-Index.ensures)

pub member_tree-returns-in_ok-a-in-Length : goal.member_tree-returns-in_ok-a-in-Length
member_tree-returns-in_ok-a-in-Length t c = rw (c.in-Length.is, c.length_of.ensures) (stands.length_of c.in_ok-a-in-Length.ensures)

pub member_tree-returns-in_ok-a-in-Pop : goal.member_tree-returns-in_ok-a-in-Pop
member_tree-returns-in_ok-a-in-Pop t c = rw (c.in-Pop.is, c.pop.ensures) (stands.pop c.in_ok-a-in-Pop.ensures)

pub member_tree-returns-in_ok-i-in-CharCodeAt : goal.member_tree-returns-in_ok-i-in-CharCodeAt
member_tree-returns-in_ok-i-in-CharCodeAt t c = rw (c.in-CharCodeAt.is, c.char_code_at.ensures) (stands.char_code_at c.in_ok-a-in-CharCodeAt.ensures c.in_ok-i-in-CharCodeAt.ensures)

pub member_tree-returns-in_ok-to-in-Substring : goal.member_tree-returns-in_ok-to-in-Substring
member_tree-returns-in_ok-to-in-Substring t c = rw (c.in-Substring.is, c.substring.ensures) (stands.substring c.in_ok-a-in-Substring.ensures c.in_ok-from-in-Substring.ensures c.in_ok-to-in-Substring.ensures)

pub member_tree-returns-in_ok-a-in-Decimal : goal.member_tree-returns-in_ok-a-in-Decimal
member_tree-returns-in_ok-a-in-Decimal t c = rw (c.in-Decimal.is, c.decimal_of.ensures) (stands.decimal_of c.in_ok-a-in-Decimal.ensures)

pub member_tree-returns-in_ok-a-in-FromCharCode : goal.member_tree-returns-in_ok-a-in-FromCharCode
member_tree-returns-in_ok-a-in-FromCharCode t c = rw (c.in-FromCharCode.is, c.from_char_code.ensures) (stands.from_char_code c.in_ok-a-in-FromCharCode.ensures)
