use Rattle.std.proofs.Common.{ap}
use Rattle.go_type.specs.Table.{places}
use Rattle.go_core.specs.CoreView.{program_view}
use Rattle.go_core.specs.Goroutine.{with_memory}
use Rattle.go_core.specs.Panics.{deferred_step}
use Rattle.go_values.specs.ValuesSeen.{memory_of}
use Rattle.go_state.specs.StateSeen.{frame_of, invocation_of, stacked}
use Rattle.go_state.specs.declared.state.frame.Invocation.{Invocation}
use Rattle.go_entries.proofs.FrameLemmas.{leaves_as}
use Rattle.go_entries.proofs.end_steps.ends.deferred_step.Goals as goal

pub returns-in-Invoke : goal.returns-in-Invoke
returns-in-Invoke c =
    let q = program_view c.args.p.now in
    let ts = places c.args.p.now.types in
    let f = frame_of ts c.args.frame in
    let fs = stacked (frame_of ts) c.args.below.now.items in
    let m = memory_of ts c.args.m.now in
    record {
      value =
          leaves_as ts c.invoked.result _ _ _ _ (λ g s. ap (λ (i : Invocation). deferred_step q g (invocation_of ts i) f fs (with_memory m s)) c.in-Invoke.is) c.invoked.ensures.value;
    }

pub returns-in-Nothing : goal.returns-in-Nothing
returns-in-Nothing c =
    let q = program_view c.args.p.now in
    let ts = places c.args.p.now.types in
    let f = frame_of ts c.args.frame in
    let fs = stacked (frame_of ts) c.args.below.now.items in
    let m = memory_of ts c.args.m.now in
    record {
      value =
          leaves_as ts c.nothing_invoked.result _ _ _ _ (λ g s. ap (λ (i : Invocation). deferred_step q g (invocation_of ts i) f fs (with_memory m s)) c.in-Nothing.is)
          (c.nothing_invoked.ensures.value c.args.m.now);
    }
