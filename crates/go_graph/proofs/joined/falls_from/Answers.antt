use Rattle.std.proofs.Common.{arith, ◌<◌, ◌≤◌}
use Rattle.go_graph.specs.Joined.{number}
use Rattle.go_graph.proofs.ListLemmas.{all_next, all_of}
use Rattle.go_graph.proofs.joined.falls_from.Goals as goal

pub loop-target-preserved : goal.loop-target-preserved
loop-target-preserved c =
    all_next (λ j. (j < c.args.count) × (number c.args.of.now j ≤ number c.args.of.now c.args.node)) c.args.list.now c.loop-target.target-index c.loop-target-test.true c.loop-target.invariant
    (omega arith, omega arith)

pub returns : goal.returns
returns c = record {
  value = λ t. all_of (λ j. (j < c.args.count) × (number c.args.of.now j ≤ number c.args.of.now c.args.node)) c.args.list.now c.loop-target.target-index c.loop-target-test.false c.loop-target.invariant;
}
