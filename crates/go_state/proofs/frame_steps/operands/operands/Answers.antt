use Rattle.std.proofs.Common.{ap, ◌∙◌}
use Rattle.std.specs.Prelude.{Option}
use Rattle.go_core.specs.Goroutine.{Popped}
use Rattle.go_core.specs.Frames.{with_popped}
use Rattle.go_state.specs.Popped.{popped_as}
use Rattle.go_state.specs.StateSeen.{frame_of}
use Rattle.go_state.proofs.frame_steps.operands.operands.Goals as goal

pub returns-in-Some : goal.returns-in-Some
returns-in-Some c = record {
  value = λ ts k.
      ap (λ (o : Option Popped). with_popped o (frame_of ts c.args.f.now) k) (c.in_ok-found.ensures.value ts)
      ∙ ap (λ r. with_popped (popped_as ts r c.pop_values.new.values.items) (frame_of ts c.args.f.now) k) c.in-Some.is;
}

pub returns-in-None : goal.returns-in-None
returns-in-None c = record {
  value = λ ts k.
      ap (λ (o : Option Popped). with_popped o (frame_of ts c.args.f.now) k) (c.in_ok-found.ensures.value ts)
      ∙ ap (λ r. with_popped (popped_as ts r c.pop_values.new.values.items) (frame_of ts c.args.f.now) k) c.in-None.is;
}
