use Rattle.std.proofs.Common.{◌∙◌, ◌∷◌, sym, ap}
use Rattle.std.specs.Prelude.{Some}
use Rattle.go_core.specs.Goroutine as defined
use Rattle.go_core.specs.Goroutine.{moved}
use Rattle.go_state.specs.StateSeen.{frame_of, stacked}
use Rattle.go_entries.proofs.call_steps.panics.recover_step.Goals as goal

pub returns : goal.returns
returns c = record {
  value = λ p ts g s.
      c.in_ok-x.ensures.value ts p g (frame_of ts c.args.f.now) s
      ∙ ap (λ (x : defined.Frame). Some (moved g (x ∷ stacked (frame_of ts) c.recovered.new.below.items) 1 s)) (sym (c.in_ok-give_scalar.ensures.value ts));
}
