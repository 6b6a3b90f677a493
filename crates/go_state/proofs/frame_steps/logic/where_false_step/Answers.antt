use Rattle.std.specs.Prelude.{true, not}
use Rattle.go_core.specs.Control as control
use Rattle.go_core.specs.CoreView.{expr_view}
use Rattle.go_core.specs.Goroutine.{with_memory}
use Rattle.go_values.specs.ValuesSeen.{memory_of}
use Rattle.go_state.proofs.GoesLemmas.{lacked, same_step}
use Rattle.go_state.proofs.frame_steps.logic.where_false_step.Goals as goal

pub returns-in_err-b : goal.returns-in_err-b
returns-in_err-b c = record {
  value = λ p ts m.
      let e = expr_view ts c.args.right.now in
      lacked p ts c.from_residual.result _ c.args.f.now c.choice.new.f m m (λ g. control.where_false_step p g e) c.from_residual.ensures.1
      (λ g below s. c.in_err-b.ensures.value ts (λ v f'. control.right_or p g (not v) true e f' below (with_memory (memory_of ts m) s)));
}

pub returns : goal.returns
returns c = record {
  value = λ p ts m.
      let e = expr_view ts c.args.right.now in
      same_step p ts c.right_or.result c.args.f.now c.choice.new.f c.right_or.new.f m m
      (λ g. let v = c.in_ok-b.b in control.right_or p g (not v) true e) (λ g. control.where_false_step p g e)
      (λ g below s. c.in_ok-b.ensures.value ts (λ v f'. control.right_or p g (not v) true e f' below (with_memory (memory_of ts m) s)))
      (c.right_or.ensures.value p ts m);
}
