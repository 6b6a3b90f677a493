use Rattle.std.proofs.Common.{◌∙◌, ap, sym, subst, ℕ, rules}
use Rattle.std.proofs.lemmas.Int.{to_z-of_z}
use Rattle.std.specs.Int.{w128}
use Rattle.std.specs.Int.RustNames.{FitsSigned}
use Rattle.std.specs.Prelude.{ℤ, Option, option_and_then}
use Rattle.go_core.specs.Communicate as defined
use Rattle.go_core.specs.Communicate.{gate_added, gate_adds, gate_number, number_in}
use Rattle.go_core.specs.Goroutine as core
use Rattle.go_values.specs.ValuesSeen.{value_of}
use Rattle.go_state.specs.StateSeen.{frame_of, state_of}
use Rattle.go_partners.specs.Moves.{TalkStep, frames_below, with_frames}
use Rattle.go_state.specs.FrameStepsFound.{NoStep}
use Rattle.go_partners.proofs.ReachLemmas.{talks_from}
use Rattle.go_partners.proofs.TalkLemmas.{talks_lacked}
use Rattle.go_partners.proofs.WaitsGateLemmas.{adds_through}
use Rattle.go_partners.proofs.waits.gates.add_gate_step.Goals as goal

pub returns-in_err-xs-clause-value : goal.returns-in_err-xs-clause-value
returns-in_err-xs-clause-value c = λ p ts free.
    let g = c.args.g in
    let s = state_of ts c.args.state.now in
    let step : TalkStep = λ x below t. defined.add_gate_step p g free x below t in
    talks_lacked p ts g c.from_residual.result c.in_err-xs.field-0.0 c.args.f.now c.operand_pair.new.f c.args.state.now c.args.state.now step c.from_residual.ensures.1
    (λ fs. c.in_err-xs.ensures.value ts (gate_adds p g free (frames_below g s) (with_frames g fs s)))

pub returns-in_err-base-clause-value : goal.returns-in_err-base-clause-value
returns-in_err-base-clause-value c = λ p ts free.
    let g = c.args.g in
    let s = state_of ts c.args.state.now in
    let f1 = frame_of ts c.operand_pair.new.f in
    let left = value_of ts c.in_ok-xs.xs.left.now in
    let right = value_of ts c.in_ok-xs.xs.right.now in
    let below = frames_below g s in
    let step : TalkStep = λ x below t. defined.add_gate_step p g free x below t in
    talks_lacked p ts g c.from_residual-in_err-base.result c.in_err-base.field-0.0 c.args.f.now c.operand_pair.new.f c.args.state.now c.args.state.now step c.from_residual-in_err-base.ensures.1
    (λ fs.
    let s0 = with_frames g fs s in
    subst (λ (o : Option core.State). NoStep c.in_err-base.field-0.0 o) (sym (c.in_ok-xs.ensures.value ts (gate_adds p g free below s0) ∙ adds_through p g free below s0 left right f1))
    (c.in_err-base.ensures.value ts p g free f1 (λ base f'. option_and_then (λ k. gate_added p g free (gate_number p g free base s0) k base f' below s0) (number_in p g free right))))

pub returns-in-Some-clause-value : goal.returns-in-Some-clause-value
returns-in-Some-clause-value c =
    let fits : FitsSigned w128 c.in-Some.k = search rules in
    let added = simp to_z-of_z at c.add_to.ensures.value in
    λ p ts free.
    let g = c.args.g in
    let s = state_of ts c.args.state.now in
    let f1 = frame_of ts c.operand_pair.new.f in
    let left = value_of ts c.in_ok-xs.xs.left.now in
    let right = value_of ts c.in_ok-xs.xs.right.now in
    let below = frames_below g s in
    let n = c.in_ok-base.base in
    let step : TalkStep = λ x below t. defined.add_gate_step p g free x below t in
    let other : TalkStep = λ x below t. gate_added p g free (gate_number p g free n t) c.in-Some.k n x below t in
    talks_from p ts g c.add_to.result c.args.f.now c.operand_pair.new.f c.add_to.new.f c.args.state.now c.add_to.new.state step other
    (λ fs.
    let s0 = with_frames g fs s in
    let adds : ℕ → core.Frame → Option ℤ → Option core.State = λ base f' o. option_and_then (λ k. gate_added p g free (gate_number p g free base s0) k base f' below s0) o in
    c.in_ok-xs.ensures.value ts (gate_adds p g free below s0)
    ∙ adds_through p g free below s0 left right f1
    ∙ c.in_ok-base.ensures.value ts p g free f1 (λ base f'. adds base f' (number_in p g free right))
    ∙ ap (adds n f1) (sym (c.number_in.ensures.value ts p g free) ∙ c.in-Some.is))
    (added p ts free)

pub returns-in-None-clause-value : goal.returns-in-None-clause-value
returns-in-None-clause-value c = λ p ts free fs.
    let g = c.args.g in
    let s = state_of ts c.args.state.now in
    let f1 = frame_of ts c.operand_pair.new.f in
    let left = value_of ts c.in_ok-xs.xs.left.now in
    let right = value_of ts c.in_ok-xs.xs.right.now in
    let below = frames_below g s in
    let s0 = with_frames g fs s in
    let adds : ℕ → core.Frame → Option ℤ → Option core.State = λ base f' o. option_and_then (λ k. gate_added p g free (gate_number p g free base s0) k base f' below s0) o in
    c.in_ok-xs.ensures.value ts (gate_adds p g free below s0)
    ∙ adds_through p g free below s0 left right f1
    ∙ c.in_ok-base.ensures.value ts p g free f1 (λ base f'. adds base f' (number_in p g free right))
    ∙ ap (adds c.in_ok-base.base f1) (sym (c.number_in.ensures.value ts p g free) ∙ c.in-None.is)
