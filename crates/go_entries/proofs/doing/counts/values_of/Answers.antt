use Rattle.std.proofs.Common.{ap, arith}
use Rattle.go_core.specs.Opened as opened
use Rattle.go_core.specs.declared.node.CoreExprs.{out-CoreExprs}
use Rattle.go_state.proofs.ListsLemmas.{exprs_whole}
use Rattle.go_entries.proofs.DoingCountLemmas.{values_step, values_end}
use Rattle.go_entries.proofs.doing.counts.values_of.Goals as goal

pub operands-init : goal.operands-init
operands-init c = λ ts. let e = ap opened.values_of (exprs_whole ts c.args.es.now) in omega (arith, e)

pub operands-preserved : goal.operands-preserved
operands-preserved c = λ ts.
    values_step ts c.args.es.now c.operands.i c.index.result.now c.operands.count _ c.value_count.result _
    (let counted = (out-CoreExprs c.args.es.now).items.ok.0 in omega (arith, c.operands-test.true, c.len-i-end.ensures, counted))
    c.index.ensures (c.value_count.ensures.value ts) c.in_ok-count.ensures.value (c.operands.invariant ts)

pub returns : goal.returns
returns c = record {
  value = λ ts.
      values_end ts c.args.es.now c.operands.i c.operands.count _
      (let counted = (out-CoreExprs c.args.es.now).items.ok.0 in omega (arith, c.operands-test.false, c.len-i-end.ensures, counted))
      (c.operands.invariant ts);
}
