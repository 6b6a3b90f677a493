use Rattle.std.proofs.Common.{arith}
use Rattle.go_type.specs.Table.{places}
use Rattle.go_core.specs.CoreView.{program_view}
use Rattle.go_sound_nodes.proofs.TargetLemmas.{printable_next, printable_none, printable_whole}
use Rattle.go_sound_nodes.proofs.targets.all_print.Goals as goal

pub loop-e-preserved : goal.loop-e-preserved
loop-e-preserved c = λ rest.
    c.loop-e.invariant
    (printable_next (program_view c.args.p.now) (places c.args.p.now.types) c.deref-e-items.result.now c.loop-e.e-index c.e-item.result c.loop-e-test.true c.e-item.is (c.prints.ensures.is c.if-not-prints.false) rest)

pub returns : goal.returns
returns c = record {
  is = λ h.
      let q = program_view c.args.p.now in
      let ts = places c.args.p.now.types in
      printable_whole q ts c.args.list.now c.deref-e-items.result.now c.deref-e-items.ensures.value (c.loop-e.invariant (printable_none q ts c.deref-e-items.result.now c.loop-e.e-index (omega (arith, c.loop-e-test.false))));
}
