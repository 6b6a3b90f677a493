use Rattle.std.proofs.Common.{arith, sym, true≢false}
use Rattle.std.specs.Prelude.{◌≢◌}
use Rattle.go_graph.specs.Joined.{number}
use Rattle.go_graph.proofs.ListLemmas.{all_next, all_of}
use Rattle.go_graph.proofs.cycles.stays.Goals as goal

pub loop-target-preserved : goal.loop-target-preserved
loop-target-preserved c =
    all_next (λ j. number c.args.of.now j ≢ number c.args.of.now c.args.node) c.args.list.now c.loop-target.target-index c.loop-target-test.true c.loop-target.invariant
    (λ e. absurd (omega (arith, e)))

pub returns : goal.returns
returns c = record {
  value = (
    λ t. absurd (true≢false (sym t)),
    λ s. absurd (all_of (λ j. number c.args.of.now j ≢ number c.args.of.now c.args.node) c.args.list.now c.loop-target.target-index c.loop-target-test.false c.loop-target.invariant s.0 s.1 s.2 s.3),
  );
}
