use Rattle.std.proofs.Common.{arith, get_or, refl}
use Rattle.go_core.specs.CoreView.{program_view}
use Rattle.go_entries.proofs.AssignStepsCountLemmas.{weights_step, weights_end}
use Rattle.go_entries.proofs.assign_steps.globals.global_weights.Goals as goal

pub numbers-preserved : goal.numbers-preserved
numbers-preserved c = λ g.
    weights_step (program_view c.args.p.now) g c.args.numbers.now c.numbers.i (get_or c.args.numbers.now c.numbers.i 0) 0 c.numbers.units c.in_ok-one.one c.in_ok-units.units _
    (omega (arith, c.numbers-test.true)) refl (c.in_ok-one.ensures.value g) c.in_ok-units.ensures.value (c.numbers.invariant g)

pub returns : goal.returns
returns c = record {
  value = λ g. weights_end (program_view c.args.p.now) g c.args.numbers.now c.numbers.i c.numbers.units _ (omega (arith, c.numbers-test.false)) (c.numbers.invariant g);
}
