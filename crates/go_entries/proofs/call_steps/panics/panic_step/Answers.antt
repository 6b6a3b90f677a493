use Rattle.go_core.specs.Goroutine.{with_memory}
use Rattle.go_core.specs.Panics as defining
use Rattle.go_values.specs.ValuesSeen.{value_of, memory_of}
use Rattle.go_state.proofs.GoesLemmas.{lacked, same_step}
use Rattle.go_entries.proofs.call_steps.panics.panic_step.Goals as goal

pub returns-in_err-x : goal.returns-in_err-x
returns-in_err-x c = record {
  value = λ p ts m.
      lacked p ts c.from_residual.result c.in_err-x.field-0.0 c.args.f.now c.operand.new.f m m (λ g. defining.panic_with_step p g) c.from_residual.ensures.1
      (λ g below s. c.in_err-x.ensures.value ts (defining.raised p g below (with_memory (memory_of ts m) s)));
}

pub returns : goal.returns
returns c = record {
  value = λ p ts m.
      same_step p ts c.raised.result c.args.f.now c.operand.new.f c.raised.new.f m m
      (λ g y below s. defining.raised p g below s (value_of ts c.in_ok-x.x.now) y) (λ g. defining.panic_with_step p g)
      (λ g below s. c.in_ok-x.ensures.value ts (defining.raised p g below (with_memory (memory_of ts m) s)))
      (c.raised.ensures.value p ts m);
}
