use Rattle.go_core.specs.Control.{on_choice, with_choice}
use Rattle.go_state.specs.StateSeen.{frame_of}
use Rattle.go_state.proofs.FrameLemmas.{missed, chosen}
use Rattle.go_state.proofs.frame_steps.operands.choice.Goals as goal

pub returns-in_err-x : goal.returns-in_err-x
returns-in_err-x c = record {
  value = λ ts.
      missed ts (λ b. b) c.from_residual.result _ _ (on_choice (frame_of ts c.args.f.now)) c.from_residual.ensures.1
      (λ k. c.in_err-x.ensures.value ts (with_choice k));
}

pub returns : goal.returns
returns c = record {
  value = λ ts.
      chosen ts c.truth_of.result _ _ (on_choice (frame_of ts c.args.f.now)) (λ k. c.in_ok-x.ensures.value ts (with_choice k)) (c.truth_of.ensures.value ts);
}
