use Rattle.std.proofs.Common.{◌<◌, ◌∙◌, ap, arith, length}
use Rattle.std.specs.Prelude.{Some, slice_get}
use Rattle.go_core.specs.Communicate as defined
use Rattle.go_core.specs.Communicate.{way_if_ready}
use Rattle.go_core.specs.Goroutine as core
use Rattle.go_state.specs.StateSeen.{frame_of, move_of, offer_of, state_of, waiting_of}
use Rattle.go_partners.specs.Moves.{TalkStep, frames_below, waiting_in, with_frames}
use Rattle.go_partners.proofs.ReachLemmas.{talks_from}
use Rattle.go_partners.proofs.WaitsWaitLemmas.{waiting_there, way_there, no_way}
use Rattle.go_partners.proofs.waits.waiting.waiting_step.Goals as goal

pub returns-in-Way-clause-value : goal.returns-in-Way-clause-value
returns-in-Way-clause-value c = λ p ts.
    let g = c.args.g in
    let free = move_of c.args.free in
    let s = state_of ts c.args.state.now in
    let gs = c.args.state.now.goroutines.items in
    let counted = c.args.state.now.goroutines.ok.0 in
    let l : g < length gs = omega (arith, c.requires.goroutine, counted) in
    let w = waiting_in (slice_get s.goroutines g) in
    let here = waiting_there ts gs g c.index.result.now l c.index.ensures in
    let step : TalkStep = λ x below t. defined.waiting_step p g free w x below t in
    let found = c.in-Way.ensures.value ts in
    let o = offer_of ts c.in-Way.offer in
    let other : TalkStep = λ x below t. way_if_ready p g free (Some o) found.0 x below t in
    talks_from p ts g c.take_ready.result c.args.f.now c.args.f.now _ c.args.state.now _ step other
    (λ fs. way_there p g free (frame_of ts c.args.f.now) (frames_below g s) (with_frames g fs s) w found.0 o (here ∙ found.1) found.2)
    (c.take_ready.ensures.value p ts found.0)

pub returns-in-Take-clause-value : goal.returns-in-Take-clause-value
returns-in-Take-clause-value c = λ p ts.
    let g = c.args.g in
    let free = move_of c.args.free in
    let s = state_of ts c.args.state.now in
    let gs = c.args.state.now.goroutines.items in
    let counted = c.args.state.now.goroutines.ok.0 in
    let l : g < length gs = omega (arith, c.requires.goroutine, counted) in
    let w = waiting_in (slice_get s.goroutines g) in
    let here = waiting_there ts gs g c.index.result.now l c.index.ensures in
    let step : TalkStep = λ x below t. defined.waiting_step p g free w x below t in
    let other : TalkStep = λ x below t. defined.waiting_step p g free (core.at_take c.in-Take.base) x below t in
    talks_from p ts g c.take_again.result c.args.f.now c.args.f.now c.args.f.now c.args.state.now _ step other
    (λ fs. ap (λ (x : core.Waiting). defined.waiting_step p g free x (frame_of ts c.args.f.now) (frames_below g s) (with_frames g fs s)) (here ∙ c.in-Take.ensures.value ts))
    (c.take_again.ensures.value p ts free)

pub returns-in-Await-clause-value : goal.returns-in-Await-clause-value
returns-in-Await-clause-value c = λ p ts.
    let g = c.args.g in
    let free = move_of c.args.free in
    let s = state_of ts c.args.state.now in
    let gs = c.args.state.now.goroutines.items in
    let counted = c.args.state.now.goroutines.ok.0 in
    let l : g < length gs = omega (arith, c.requires.goroutine, counted) in
    let w = waiting_in (slice_get s.goroutines g) in
    let here = waiting_there ts gs g c.index.result.now l c.index.ensures in
    let step : TalkStep = λ x below t. defined.waiting_step p g free w x below t in
    let other : TalkStep = λ x below t. defined.waiting_step p g free (core.at_await c.in-Await.base) x below t in
    talks_from p ts g c.await_again.result c.args.f.now c.args.f.now c.args.f.now c.args.state.now c.args.state.now step other
    (λ fs. ap (λ (x : core.Waiting). defined.waiting_step p g free x (frame_of ts c.args.f.now) (frames_below g s) (with_frames g fs s)) (here ∙ c.in-Await.ensures.value ts))
    (c.await_again.ensures.value p ts free)

pub returns-in-Nothing-clause-value : goal.returns-in-Nothing-clause-value
returns-in-Nothing-clause-value c = λ p ts fs.
    let g = c.args.g in
    let free = move_of c.args.free in
    let s = state_of ts c.args.state.now in
    let gs = c.args.state.now.goroutines.items in
    let counted = c.args.state.now.goroutines.ok.0 in
    let l : g < length gs = omega (arith, c.requires.goroutine, counted) in
    let f = frame_of ts c.args.f.now in
    let below = frames_below g s in
    let here = waiting_there ts gs g c.index.result.now l c.index.ensures in
    ap (λ (x : core.Waiting). defined.waiting_step p g free x f below (with_frames g fs s)) here
    ∙ no_way p g free f below (with_frames g fs s) (waiting_of ts c.index.result.now.waiting) (c.in-Nothing.ensures.value ts)
