use Rattle.std.proofs.Common.{ap, List}
use Rattle.go_core.specs.Goroutine as defined
use Rattle.go_state.specs.StateSeen.{frame_of}
use Rattle.go_entries.proofs.FrameLemmas.{call_above}
use Rattle.go_entries.proofs.call_steps.calls.defer.Goals as goal

pub returns : goal.returns
returns c = record {
  value = λ ts.
      let x = frame_of ts c.args.f.now in
      ap (λ (is : List defined.Invocation). record x { deferred_calls = is }) (call_above ts _ _ _ c.in_ok-push.ensures.items);
}
