use Rattle.go_core.specs.Communicate as defined
use Rattle.go_core.specs.Communicate.{gate_taken}
use Rattle.go_state.specs.StateSeen.{state_of}
use Rattle.go_partners.specs.Moves.{TalkStep, frames_below, with_frames}
use Rattle.go_partners.proofs.ReachLemmas.{talks_from}
use Rattle.go_partners.proofs.TalkLemmas.{talks_lacked}
use Rattle.go_partners.proofs.waits.gates.take_gate_step.Goals as goal

pub returns-in_err-base-clause-value : goal.returns-in_err-base-clause-value
returns-in_err-base-clause-value c = λ p ts free.
    let g = c.args.g in
    let s = state_of ts c.args.state.now in
    let step : TalkStep = λ x below t. defined.take_gate_step p g free x below t in
    talks_lacked p ts g c.from_residual.result c.in_err-base.field-0.0 c.args.f.now c.gate_of.new.f c.args.state.now c.args.state.now step c.from_residual.ensures.1
    (λ fs. c.in_err-base.ensures.value ts p g free (λ base f'. gate_taken p g free (defined.gate_number p g free base s) base f' (frames_below g s) (with_frames g fs s)))

pub returns-clause-value : goal.returns-clause-value
returns-clause-value c = λ p ts free.
    let g = c.args.g in
    let s = state_of ts c.args.state.now in
    let step : TalkStep = λ x below t. defined.take_gate_step p g free x below t in
    let other : TalkStep = λ x below t. gate_taken p g free (defined.gate_number p g free c.in_ok-base.base t) c.in_ok-base.base x below t in
    talks_from p ts g c.take_gate.result c.args.f.now c.gate_of.new.f c.gate_of.new.f c.args.state.now c.take_gate.new.state step other
    (λ fs. c.in_ok-base.ensures.value ts p g free (λ base f'. gate_taken p g free (defined.gate_number p g free base s) base f' (frames_below g s) (with_frames g fs s)))
    (c.take_gate.ensures.value p ts free)
