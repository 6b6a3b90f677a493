use Rattle.std.proofs.Common.{◌∙◌, ap, ◌∷◌, ℕ}
use Rattle.go_type.specs.Levels.{tree_of}
use Rattle.go_core.specs.Frames.{to_panicking}
use Rattle.go_core.specs.Goroutine as defined
use Rattle.go_core.specs.Goroutine.{moved}
use Rattle.go_core.specs.Memory as core
use Rattle.go_core.specs.RunPanic.{panic_value}
use Rattle.go_state.specs.StateSeen.{frame_of, state_of}
use Rattle.go_values.specs.ValuesSeen.{panic_of}
use Rattle.go_partners.specs.Moves.{frames_below}
use Rattle.go_play.proofs.outcomes.outcome.raise.Goals as goal

pub returns : goal.returns
returns c = record {
  value = λ ts.
      let g = c.args.g in
      let s = state_of ts c.args.state.now in
      let below = frames_below g s in
      let f = frame_of ts c.args.frame in
      let v = panic_value (tree_of ts c.args.hidden) (panic_of c.args.cause) in
      c.in_ok-put_back.ensures.value ts
      ∙ ap (λ (h : defined.Frame). moved g (h ∷ below) c.in_ok-all.all s) (c.to_panicking.ensures.value ts ∙ ap (λ (x : core.Scalar). to_panicking x f) (c.in_ok-x.ensures.value ts))
      ∙ ap (λ (n : ℕ). moved g (to_panicking v f ∷ below) n s) c.in_ok-all.ensures.value;
}
