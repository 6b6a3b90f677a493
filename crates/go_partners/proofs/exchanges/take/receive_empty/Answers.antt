use Rattle.std.proofs.Common.{eqb, ◌<◌, ◌∙◌, ap, arith, ◌+◌, length, true, false}
use Rattle.std.specs.Prelude.{Err}
use Rattle.std.proofs.lemmas.Bool.{eq-eqb, ne_eqb}
use Rattle.go_core.specs.Communicate.{done_with, received, from_partner, partner_offer}
use Rattle.go_core.specs.Memory as core
use Rattle.go_core.specs.Memory.{set_channel}
use Rattle.go_values.specs.ValuesSeen.{value_of}
use Rattle.go_state.specs.StateSeen.{after_of, frame_of, move_of, state_of}
use Rattle.go_partners.specs.Moves.{frames_below, with_frames}
use Rattle.go_partners.proofs.TakeLemmas.{moves_as, frame_moves, same_moves, taken_closed, taken_partner, taken_nothing}
use Rattle.go_partners.proofs.StopLemmas.{moves_stopped, receive_stops, channel_is}
use Rattle.go_partners.proofs.exchanges.take.receive_empty.Goals as goal

pub returns-then-channel-clause-value : goal.returns-then-channel-clause-value
returns-then-channel-clause-value c = λ p ts k h fs.
    let w = c.args.what in
    let g = c.args.g in
    let s = state_of ts c.args.state.now in
    let chans = c.args.state.now.memory.channels.items in
    let counted = c.args.state.now.memory.channels.ok.0 in
    let l : w.name < length chans = omega (arith, c.requires.name, counted) in
    let e = channel_is ts chans w.name c.index-channel.result.now k l c.index-channel.ensures h in
    taken_closed p g (move_of c.args.free) w.name (value_of ts w.zero.now) w.units w.values (after_of ts w.after) k (frame_of ts c.args.f.now) (frames_below g s) (with_frames g fs s) (ap (λ (q : core.Channel). q.closed) e ∙ c.if-channel.true)
    ∙ frame_moves g fs (frames_below g s) s (done_with (received w.values (value_of ts w.zero.now) false) (after_of ts w.after) (frame_of ts c.args.f.now)) _ (1 + w.units) c.in_ok-units.units (c.in_ok-units.ensures.frame ts) c.in_ok-units.ensures.value

pub returns-then-channel-ne0-clause-value : goal.returns-then-channel-ne0-clause-value
returns-then-channel-ne0-clause-value c = λ p ts k h fs.
    let w = c.args.what in
    let g = c.args.g in
    let s = state_of ts c.args.state.now in
    let chans = c.args.state.now.memory.channels.items in
    let counted = c.args.state.now.memory.channels.ok.0 in
    let l : w.name < length chans = omega (arith, c.requires.name, counted) in
    let old = c.index-channel.result.now in
    let e = channel_is ts chans w.name old k l c.index-channel.ensures h in
    taken_nothing p g (move_of c.args.free) w.name (value_of ts w.zero.now) w.units w.values (after_of ts w.after) k (frame_of ts c.args.f.now) (frames_below g s) (with_frames g fs s) (ap (λ (q : core.Channel). q.closed) e ∙ c.if-channel.false)
    (ap (λ (q : core.Channel). eqb q.capacity 0) e ∙ ne_eqb old.capacity 0 c.if-channel-ne0.true)

pub returns-in_err-x-clause-value : goal.returns-in_err-x-clause-value
returns-in_err-x-clause-value c = λ p ts k h.
    let w = c.args.what in
    let g = c.args.g in
    let free = move_of c.args.free in
    let s = state_of ts c.args.state.now in
    let chans = c.args.state.now.memory.channels.items in
    let counted = c.args.state.now.memory.channels.ok.0 in
    let l : w.name < length chans = omega (arith, c.requires.name, counted) in
    let old = c.index-channel.result.now in
    let e = channel_is ts chans w.name old k l c.index-channel.ensures h in
    let x = c.in_err-x.field-0.0 in
    moves_stopped ts p g c.args.f.now _ c.args.state.now c.from_partner.new.state c.from_residual-in_err-x.result x _ c.from_residual-in_err-x.ensures.1
    (moves_as p ts g (Err x) c.args.f.now _ c.args.state.now c.from_partner.new.state _ (λ f below t. from_partner p g free w.name w.values (after_of ts w.after) (partner_offer g free t) f below w.units t)
    (λ fs. taken_partner p g free w.name (value_of ts w.zero.now) w.units w.values (after_of ts w.after) k (frame_of ts c.args.f.now) (frames_below g s) (with_frames g fs s) (ap (λ (q : core.Channel). q.closed) e ∙ c.if-channel.false)
    (ap (λ (q : core.Channel). eqb q.capacity 0) e ∙ eq-eqb old.capacity 0 c.if-channel-ne0.false))
    (receive_stops ts p g c.args.f.now _ c.args.state.now c.from_partner.new.state x (λ n after f below u t. from_partner p g free w.name n after (partner_offer g free t) f below u t) w.values w.units (after_of ts w.after) (c.in_err-x.ensures.value ts p)))

pub returns-clause-value : goal.returns-clause-value
returns-clause-value c = λ p ts k h fs.
    let w = c.args.what in
    let g = c.args.g in
    let free = move_of c.args.free in
    let s = state_of ts c.args.state.now in
    let chans = c.args.state.now.memory.channels.items in
    let counted = c.args.state.now.memory.channels.ok.0 in
    let l : w.name < length chans = omega (arith, c.requires.name, counted) in
    let old = c.index-channel.result.now in
    let e = channel_is ts chans w.name old k l c.index-channel.ensures h in
    let f = frame_of ts c.args.f.now in
    let below = frames_below g s in
    taken_partner p g free w.name (value_of ts w.zero.now) w.units w.values (after_of ts w.after) k f below (with_frames g fs s) (ap (λ (q : core.Channel). q.closed) e ∙ c.if-channel.false)
    (ap (λ (q : core.Channel). eqb q.capacity 0) e ∙ eq-eqb old.capacity 0 c.if-channel-ne0.false)
    ∙ c.in_ok-x.ensures.value ts p fs w.values (after_of ts w.after) f below w.units
    ∙ same_moves g below (state_of ts c.from_partner.new.state) (done_with (received w.values (value_of ts c.in_ok-x.x.now) true) (after_of ts w.after) f) _ (1 + w.units) c.in_ok-units-2.units (c.in_ok-units-2.ensures.frame ts) c.in_ok-units-2.ensures.value
