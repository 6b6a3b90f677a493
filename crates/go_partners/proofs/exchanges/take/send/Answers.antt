use Rattle.std.proofs.Common.{◌<◌, ◌∙◌, arith, length}
use Rattle.go_core.specs.RunPanic.{send_on_closed}
use Rattle.go_values.specs.ValuesSeen.{channel_of, value_of}
use Rattle.go_state.specs.StateSeen.{after_of, frame_of, move_of, state_of}
use Rattle.go_partners.specs.Moves.{frames_below, with_frames}
use Rattle.go_partners.proofs.TakeLemmas.{moves_as, send_there, sent_closed, sent_room, sent_partner, sent_nothing}
use Rattle.go_partners.proofs.StopLemmas.{panic_over, channel_there}
use Rattle.go_partners.proofs.exchanges.take.send.Goals as goal

pub returns-in-Closed-clause-value : goal.returns-in-Closed-clause-value
returns-in-Closed-clause-value c = λ p ts fs.
    let w = c.args.what in
    let g = c.args.g in
    let s = state_of ts c.args.state.now in
    let chans = c.args.state.now.memory.channels.items in
    let counted = c.args.state.now.memory.channels.ok.0 in
    let l : w.name < length chans = omega (arith, c.if-what-len.false, c.len.ensures, counted) in
    let k = channel_of ts c.index.result.now in
    send_there p g (move_of c.args.free) w.name (value_of ts w.value.now) w.units (after_of ts w.after) k (frame_of ts c.args.f.now) (frames_below g s) (with_frames g fs s) (channel_there ts chans w.name c.index.result.now l c.index.ensures)
    ∙ sent_closed p g (move_of c.args.free) w.name (value_of ts w.value.now) w.units (after_of ts w.after) k (frame_of ts c.args.f.now) (frames_below g s) (with_frames g fs s) (c.in-Closed.ensures.value ts)
    ∙ panic_over p g send_on_closed 0 (frame_of ts c.args.f.now) fs (frames_below g s) s

pub returns-in-Room-clause-value : goal.returns-in-Room-clause-value
returns-in-Room-clause-value c = λ p ts.
    let w = c.args.what in
    let g = c.args.g in
    let free = move_of c.args.free in
    let s = state_of ts c.args.state.now in
    let chans = c.args.state.now.memory.channels.items in
    let counted = c.args.state.now.memory.channels.ok.0 in
    let l : w.name < length chans = omega (arith, c.if-what-len.false, c.len.ensures, counted) in
    let k = channel_of ts c.index.result.now in
    let e = channel_there ts chans w.name c.index.result.now l c.index.ensures in
    moves_as p ts g c.send_to_buffer.result c.args.f.now _ c.args.state.now _ _ _
    (λ fs.
    send_there p g free w.name (value_of ts w.value.now) w.units (after_of ts w.after) k (frame_of ts c.args.f.now) (frames_below g s) (with_frames g fs s) e
    ∙ sent_room p g free w.name (value_of ts w.value.now) w.units (after_of ts w.after) k (frame_of ts c.args.f.now) (frames_below g s) (with_frames g fs s) (c.in-Room.ensures.value ts).0 (c.in-Room.ensures.value ts).1)
    (c.send_to_buffer.ensures.value p ts g free k e)

pub returns-in-Partner-clause-value : goal.returns-in-Partner-clause-value
returns-in-Partner-clause-value c = λ p ts.
    let w = c.args.what in
    let g = c.args.g in
    let free = move_of c.args.free in
    let s = state_of ts c.args.state.now in
    let chans = c.args.state.now.memory.channels.items in
    let counted = c.args.state.now.memory.channels.ok.0 in
    let l : w.name < length chans = omega (arith, c.if-what-len.false, c.len.ensures, counted) in
    let k = channel_of ts c.index.result.now in
    let e = channel_there ts chans w.name c.index.result.now l c.index.ensures in
    moves_as p ts g c.send_to_partner.result c.args.f.now _ c.args.state.now _ _ _
    (λ fs.
    send_there p g free w.name (value_of ts w.value.now) w.units (after_of ts w.after) k (frame_of ts c.args.f.now) (frames_below g s) (with_frames g fs s) e
    ∙ sent_partner p g free w.name (value_of ts w.value.now) w.units (after_of ts w.after) k (frame_of ts c.args.f.now) (frames_below g s) (with_frames g fs s) (c.in-Partner.ensures.value ts).0 (c.in-Partner.ensures.value ts).1 (c.in-Partner.ensures.value ts).2)
    (c.send_to_partner.ensures.value p ts)

pub returns-in-Nothing-clause-value : goal.returns-in-Nothing-clause-value
returns-in-Nothing-clause-value c = λ p ts fs.
    let w = c.args.what in
    let g = c.args.g in
    let free = move_of c.args.free in
    let s = state_of ts c.args.state.now in
    let chans = c.args.state.now.memory.channels.items in
    let counted = c.args.state.now.memory.channels.ok.0 in
    let l : w.name < length chans = omega (arith, c.if-what-len.false, c.len.ensures, counted) in
    let k = channel_of ts c.index.result.now in
    send_there p g free w.name (value_of ts w.value.now) w.units (after_of ts w.after) k (frame_of ts c.args.f.now) (frames_below g s) (with_frames g fs s) (channel_there ts chans w.name c.index.result.now l c.index.ensures)
    ∙ sent_nothing p g free w.name (value_of ts w.value.now) w.units (after_of ts w.after) k (frame_of ts c.args.f.now) (frames_below g s) (with_frames g fs s) (c.in-Nothing.ensures.value ts).0 (c.in-Nothing.ensures.value ts).1 (c.in-Nothing.ensures.value ts).2
