use Rattle.go_core.specs.Communicate.{on_gate, with_gate}
use Rattle.go_values.specs.ValuesSeen.{value_of}
use Rattle.go_state.specs.StateSeen.{frame_of}
use Rattle.go_state.proofs.FrameLemmas.{missed}
use Rattle.go_partners.proofs.WaitsGateLemmas.{gate_found}
use Rattle.go_partners.proofs.waits.gates.gate_of.Goals as goal

pub returns-in_err-x : goal.returns-in_err-x
returns-in_err-x c = record {
  value = λ ts p g free.
      missed ts (λ n. n) c.from_residual.result _ _ (on_gate p g free (frame_of ts c.args.f.now)) c.from_residual.ensures.1
      (λ k. c.in_err-x.ensures.value ts (with_gate p g free k));
}

pub returns : goal.returns
returns c = record {
  value = λ ts p g free.
      gate_found ts p g free c.gate_in.result (value_of ts c.in_ok-x.x.now) c.operand.new.f (on_gate p g free (frame_of ts c.args.f.now)) (λ k. c.in_ok-x.ensures.value ts (with_gate p g free k))
      (c.gate_in.ensures.value ts p g free (frame_of ts c.operand.new.f));
}
