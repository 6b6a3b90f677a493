use Rattle.std.proofs.Common.{◌∙◌, ap, sym, ℕ}
use Rattle.std.specs.Prelude.{Option, option_and_then}
use Rattle.go_core.specs.Communicate as defined
use Rattle.go_core.specs.Communicate.{close_named, named_channel}
use Rattle.go_core.specs.Goroutine as core
use Rattle.go_state.specs.StateSeen.{frame_of, state_of}
use Rattle.go_partners.specs.Moves.{TalkStep, frames_below, with_frames}
use Rattle.go_partners.proofs.ReachLemmas.{talks_from}
use Rattle.go_partners.proofs.TalkLemmas.{talks_lacked}
use Rattle.go_partners.proofs.talk_steps.close.close_step.Goals as goal

pub returns-in_err-x-clause-value : goal.returns-in_err-x-clause-value
returns-in_err-x-clause-value c = λ p ts free.
    let g = c.args.g in
    let s = state_of ts c.args.state.now in
    let step : TalkStep = λ x below t. defined.close_step p g free x below t in
    talks_lacked p ts g c.from_residual.result c.in_err-x.field-0.0 c.args.f.now c.operand.new.f c.args.state.now c.args.state.now step c.from_residual.ensures.1
    (λ fs. c.in_err-x.ensures.value ts (λ v f'. option_and_then (λ name. close_named p g free name f' (frames_below g s) (with_frames g fs s)) (named_channel v)))

pub returns-in-Some-clause-value : goal.returns-in-Some-clause-value
returns-in-Some-clause-value c = λ p ts free.
    let g = c.args.g in
    let s = state_of ts c.args.state.now in
    let step : TalkStep = λ x below t. defined.close_step p g free x below t in
    let other : TalkStep = λ x below t. close_named p g free c.in-Some.channel x below t in
    talks_from p ts g c.close_channel.result c.args.f.now c.operand.new.f c.operand.new.f c.args.state.now c.close_channel.new.state step other
    (λ fs.
    let closes : core.Frame → Option ℕ → Option core.State = λ f' name. close_named p g free name f' (frames_below g s) (with_frames g fs s) in
    c.in_ok-x.ensures.value ts (λ v f'. option_and_then (closes f') (named_channel v))
    ∙ ap (option_and_then (closes (frame_of ts c.operand.new.f))) (sym (c.named_channel.ensures.value ts) ∙ c.in-Some.is))
    (c.close_channel.ensures.value p ts free)

pub returns-in-None-clause-value : goal.returns-in-None-clause-value
returns-in-None-clause-value c = λ p ts free fs.
    let g = c.args.g in
    let s = state_of ts c.args.state.now in
    let closes : core.Frame → Option ℕ → Option core.State = λ f' name. close_named p g free name f' (frames_below g s) (with_frames g fs s) in
    c.in_ok-x.ensures.value ts (λ v f'. option_and_then (closes f') (named_channel v))
    ∙ ap (option_and_then (closes (frame_of ts c.operand.new.f))) (sym (c.named_channel.ensures.value ts) ∙ c.in-None.is)
