use Rattle.std.proofs.Common.{ap}
use Rattle.std.specs.Prelude.{Some}
use Rattle.go_core.specs.Goroutine.{with_memory}
use Rattle.go_core.specs.Panics.{ended_with}
use Rattle.go_values.specs.ValuesSeen.{values_of, memory_of}
use Rattle.go_state.specs.StateSeen.{frame_of, purpose_of, stacked}
use Rattle.go_state.specs.declared.state.frame.Purpose.{Purpose}
use Rattle.go_entries.proofs.FrameLemmas.{leaves_as}
use Rattle.go_entries.proofs.end_steps.ends.ended_with.Goals as goal

pub returns-in-Called : goal.returns-in-Called
returns-in-Called c = record {
  value = λ p ts m.
      leaves_as ts c.given_below.result _ m _ _
      (λ g s. ap (λ (u : Purpose). ended_with p g (purpose_of u) (Some (values_of ts c.args.xs.now)) (stacked (frame_of ts) c.args.below.now.items) (with_memory (memory_of ts m) s)) c.in-Called.is)
      (c.given_below.ensures.value p ts m);
}

pub returns-in-Deferred : goal.returns-in-Deferred
returns-in-Deferred c = record {
  value = λ p ts m g s.
      ap (λ (u : Purpose). ended_with p g (purpose_of u) (Some (values_of ts c.args.xs.now)) (stacked (frame_of ts) c.args.below.now.items) (with_memory (memory_of ts m) s)) c.in-Deferred.is;
}

pub returns-in-Reporting : goal.returns-in-Reporting
returns-in-Reporting c = record {
  value = λ p ts m.
      leaves_as ts c.reported.result _ m _ _
      (λ g s. ap (λ (u : Purpose). ended_with p g (purpose_of u) (Some (values_of ts c.args.xs.now)) (stacked (frame_of ts) c.args.below.now.items) (with_memory (memory_of ts m) s)) c.in-Reporting.is)
      (c.reported.ensures.value p ts m);
}
