use Rattle.std.proofs.Common.{◌∙◌, ap, ℕ}
use Rattle.std.specs.Prelude.{Option, Some}
use Rattle.go_core.specs.Communicate.{close_named}
use Rattle.go_core.specs.RunPanic.{closed_nil}
use Rattle.go_state.specs.StateSeen.{frame_of, state_of}
use Rattle.go_partners.specs.Moves.{TalkStep, frames_below, with_frames}
use Rattle.go_partners.proofs.StopLemmas.{panic_over}
use Rattle.go_partners.proofs.ReachLemmas.{talks_from}
use Rattle.go_partners.proofs.talk_steps.close.close_channel.Goals as goal

pub returns-in-Some-clause-value : goal.returns-in-Some-clause-value
returns-in-Some-clause-value c = λ p ts free.
    let g = c.args.g in
    let s = state_of ts c.args.state.now in
    let step : TalkStep = λ x below t. close_named p g free c.args.channel x below t in
    let other : TalkStep = λ x below t. close_named p g free (Some c.in-Some.name) x below t in
    talks_from p ts g c.close_named.result c.args.f.now c.args.f.now c.args.f.now c.args.state.now c.close_named.new.state step other
    (λ fs. ap (λ (o : Option ℕ). close_named p g free o (frame_of ts c.args.f.now) (frames_below g s) (with_frames g fs s)) c.in-Some.is)
    (c.close_named.ensures.value p ts free)

pub returns-in-None-clause-value : goal.returns-in-None-clause-value
returns-in-None-clause-value c = λ p ts free fs.
    let g = c.args.g in
    let s = state_of ts c.args.state.now in
    let f = frame_of ts c.args.f.now in
    ap (λ (o : Option ℕ). close_named p g free o f (frames_below g s) (with_frames g fs s)) c.in-None.is
    ∙ panic_over p g closed_nil 0 f fs (frames_below g s) s
