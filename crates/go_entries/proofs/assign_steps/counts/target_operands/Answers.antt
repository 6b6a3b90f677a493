use Rattle.std.proofs.Common.{arith}
use Rattle.go_entries.proofs.AssignStepsCountLemmas.{operands_step, operands_end}
use Rattle.go_entries.proofs.assign_steps.counts.target_operands.Goals as goal

pub targets-preserved : goal.targets-preserved
targets-preserved c = λ ts p g.
    operands_step p g ts c.args.targets.now c.targets.i c.index.result.now c.targets.count _ c.in_ok-one.one _
    (let counted = c.args.targets.now.items.ok.0 in omega (arith, c.targets-test.true, c.len-i-end.ensures, counted))
    c.index.ensures (c.in_ok-one.ensures.value ts p g) c.in_ok-count.ensures.value (c.targets.invariant ts p g)

pub returns : goal.returns
returns c = record {
  value = λ ts p g.
      operands_end p g ts c.args.targets.now c.targets.i c.targets.count _
      (let counted = c.args.targets.now.items.ok.0 in omega (arith, c.targets-test.false, c.len-i-end.ensures, counted))
      (c.targets.invariant ts p g);
}
