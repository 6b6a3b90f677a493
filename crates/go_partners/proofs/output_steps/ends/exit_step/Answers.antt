use Rattle.go_core.specs.GoStep as steps
use Rattle.go_state.specs.StateSeen.{frame_of}
use Rattle.go_values.specs.ValuesSeen.{value_of}
use Rattle.go_partners.proofs.TellLemmas.{told_none, tells_as}
use Rattle.go_partners.proofs.output_steps.ends.exit_step.Goals as goal

pub returns-in_err-x : goal.returns-in_err-x
returns-in_err-x c = record {
  value = λ p choices free ts.
      told_none ts c.from_residual.result c.in_err-x.field-0.0 c.operand.new.f (λ g. steps.exit_step p choices free g (frame_of ts c.args.f.now)) c.from_residual.ensures.1
      (λ g below s. c.in_err-x.ensures.value ts (steps.exited p choices free g below s));
}

pub returns : goal.returns
returns c = record {
  value = λ p choices free ts.
      tells_as ts c.status_of.result c.operand.new.f (λ g. steps.exit_step p choices free g (frame_of ts c.args.f.now))
      (λ g below s. steps.exited p choices free g below s (value_of ts c.in_ok-x.x.now) (frame_of ts c.operand.new.f))
      (λ g below s. c.in_ok-x.ensures.value ts (steps.exited p choices free g below s))
      (c.status_of.ensures.value p choices free ts c.operand.new.f);
}
