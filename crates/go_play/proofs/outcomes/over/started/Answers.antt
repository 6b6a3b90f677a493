use Rattle.std.proofs.Common.{refl, ap, List}
use Rattle.go_core.specs.Goroutine as defined
use Rattle.go_state.specs.StateSeen.{state_of}
use Rattle.go_state.specs.declared.state.state.Goroutine.{Goroutine}
use Rattle.go_state.specs.declared.state.state.Waiting.TheVariants as waiting
use Rattle.go_play.proofs.OverLemmas.{one_started}
use Rattle.go_play.proofs.outcomes.over.started.Goals as goal

pub returns : goal.returns
returns c = record {
  value = λ ts.
      let x : Goroutine = record { frames = c.in_ok-frames.frames; waiting = waiting.Able } in
      ap (λ (gs : List defined.Goroutine). let s : defined.State = record (state_of ts c.args.state.now) { goroutines = gs } in s)
      (one_started ts c.args.state.now.goroutines.items c.push.new.self.items x c.args.f c.in_ok-push.ensures.items c.in_ok-frames.ensures.value refl);
}
