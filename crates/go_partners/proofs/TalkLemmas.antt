-- What stops an operand stops the step.
use Rattle.std.proofs.Common.{◌≡◌, ℕ, List}
use Rattle.std.specs.Prelude.{Result, IsErrAnd}
use Rattle.go_type.specs.Tree.{Ty}
use Rattle.go_core.specs.CoreTree.{CoreProgram}
use Rattle.go_core.specs.Goroutine.{Frame}
use Rattle.go_values.specs.declared.operators.did.Stop.{Stop}
use Rattle.go_values.specs.declared.operators.did.Stop.TheVariants as stop
use Rattle.go_state.specs.StateSeen.{frame_of, state_of}
use Rattle.go_state.specs.declared.state.frame.Frame as held_frame
use Rattle.go_state.specs.declared.state.state.State as held
use Rattle.go_partners.specs.Moves.{TalkStep, Halts, frames_below, with_frames}
use Rattle.go_state.specs.FrameStepsFound.{NoStep}
use Rattle.go_partners.specs.Talks.{Talks}
use Rattle.go_partners.proofs.ReachLemmas.{talks_stopped}
use Rattle.go_partners.specs.declared.selects.reach.Talked.{Talked}

module _ (p : CoreProgram) (ts : List Ty) (g : ℕ) where
  lacks : (x : Stop) (f f' : held_frame.Frame) (s s' : held.State) (step : TalkStep)
      → ((fs : List Frame) → NoStep x (step (frame_of ts f) (frames_below g (state_of ts s)) (with_frames g fs (state_of ts s)))) → Halts p ts x g f f' s s' step
  lacks stop.NoMemory f f' s s' step h = tt
  lacks stop.NoStep f f' s s' step h = h
  lacks (stop.Panics q u) f f' s s' step h = λ fs. absurd (h fs)

  pub talks_lacked : (r : Result Talked Stop) (x : Stop) (f f' : held_frame.Frame) (s s' : held.State) (step : TalkStep) → IsErrAnd r (λ y. y ≡ x)
      → ((fs : List Frame) → NoStep x (step (frame_of ts f) (frames_below g (state_of ts s)) (with_frames g fs (state_of ts s)))) → Talks p ts g r f f' s s' step
  talks_lacked r x f f' s s' step i h = talks_stopped p ts g r x f f' s s' step i (lacks x f f' s s' step h)
