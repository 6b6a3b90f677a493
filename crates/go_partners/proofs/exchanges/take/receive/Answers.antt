use Rattle.std.proofs.Common.{refl, ◌≡◌, ◌<◌, ◌∙◌, ap, sym, arith, List, [], ◌+◌, length, map, true, false}
use Rattle.std.specs.Prelude.{slice_set, vec_len}
use Rattle.std.proofs.lemmas.Bool.{eq-eqb}
use Rattle.go_core.specs.Communicate.{taken_from, done_with, received}
use Rattle.go_core.specs.Memory as core
use Rattle.go_core.specs.Memory.{set_channel}
use Rattle.go_values.specs.ValuesSeen.{channel_of, memory_of, value_of, values_of}
use Rattle.go_values.specs.declared.values.memory.Channel.{Channel}
use Rattle.go_state.specs.StateSeen.{after_of, frame_of, move_of, state_of}
use Rattle.go_partners.specs.Moves.{frames_below, with_frames}
use Rattle.go_partners.proofs.TakeLemmas.{moves_as, memory_moves, receive_there, taken_front}
use Rattle.go_partners.proofs.StopLemmas.{channel_there, channel_put, front_of, same_at}
use Rattle.std.proofs.lemmas.List.{nil_from_length}
use Rattle.std.proofs.lemmas.Bool.{eqb-true}
use Rattle.go_partners.proofs.exchanges.take.receive.Goals as goal

pub returns-then-is_empty-clause-value : goal.returns-then-is_empty-clause-value
returns-then-is_empty-clause-value c = λ p ts.
    let w = c.args.what in
    let g = c.args.g in
    let free = move_of c.args.free in
    let s = state_of ts c.args.state.now in
    let chans = c.args.state.now.memory.channels.items in
    let counted = c.args.state.now.memory.channels.ok.0 in
    let l : w.name < length chans = omega (arith, c.if-what-len.false, c.len.ensures, counted) in
    let old = c.index.result.now in
    let k = channel_of ts old in
    let e = channel_there ts chans w.name old l c.index.ensures in
    let xs = old.values.items in
    let held = old.values.ok.0 in
    let zero = eqb-true _ _ (sym c.is_empty.ensures ∙ c.if-is_empty.true) in
    let nil : xs ≡ [] = nil_from_length xs (omega (arith, zero, held)) in
    moves_as p ts g c.receive_empty.result c.args.f.now _ c.args.state.now _ _ _
    (λ fs.
    receive_there p g free w.name (value_of ts w.zero.now) w.units w.values (after_of ts w.after) k (frame_of ts c.args.f.now) (frames_below g s) (with_frames g fs s) e
    ∙ ap (λ (ys : _). taken_from p g free (values_of ts ys) w.name (value_of ts w.zero.now) w.units w.values (after_of ts w.after) k (frame_of ts c.args.f.now) (frames_below g s) (with_frames g fs s)) nil)
    (c.receive_empty.ensures.value p ts k e)

pub returns-clause-value : goal.returns-clause-value
returns-clause-value c = λ p ts fs.
    let w = c.args.what in
    let g = c.args.g in
    let free = move_of c.args.free in
    let s = state_of ts c.args.state.now in
    let chans = c.args.state.now.memory.channels.items in
    let counted = c.args.state.now.memory.channels.ok.0 in
    let l : w.name < length chans = omega (arith, c.if-what-len.false, c.len.ensures, counted) in
    let seen = c.index.result.now in
    let old = c.index_mut.result.now in
    let same : seen ≡ old = same_at chans w.name seen old l c.index.ensures c.index_mut.ensures.value in
    let held = seen.values.ok.0 in
    let some : length old.values.items ≡ 0 → ⊥ = λ h.
    let z : length seen.values.items ≡ 0 = ap (λ (q : Channel). length q.values.items) same ∙ h in
    let t : true ≡ false = sym (eq-eqb (vec_len seen.values) 0 (omega (arith, z, held))) ∙ sym c.is_empty.ensures ∙ c.if-is_empty.false in cc in
    let front = c.remove-front.result in
    let rest = c.remove-front.new.self.items in
    let parts = front_of old.values.items rest front some c.remove-front.ensures.value c.remove-front.ensures.items in
    let k = channel_of ts old in
    let e = channel_there ts chans w.name old l c.index_mut.ensures.value in
    let f = frame_of ts c.args.f.now in
    let below = frames_below g s in
    let new : Channel = record { capacity = old.capacity; values = c.remove-front.new.self; closed = old.closed } in
    let with_channels : List core.Channel → core.Memory = λ xs. record (memory_of ts c.args.state.now.memory) { channels = xs } in
    let done = done_with (received w.values (value_of ts front.now) true) (after_of ts w.after) f in
    receive_there p g free w.name (value_of ts w.zero.now) w.units w.values (after_of ts w.after) k f below (with_frames g fs s) e
    ∙ taken_front p g free w.name (value_of ts w.zero.now) w.units w.values (after_of ts w.after) k f below (with_frames g fs s) (value_of ts front.now) (values_of ts rest) (ap (values_of ts) parts)
    ∙ memory_moves g fs below s done (frame_of ts c.receive_now.new.f) (1 + w.units) c.in_ok-units.units (with_channels (slice_set (map (channel_of ts) chans) w.name (record k { values = values_of ts rest }))) (with_channels (map (channel_of ts) (slice_set chans w.name new)))
    (c.in_ok-units.ensures.frame ts) c.in_ok-units.ensures.value (ap with_channels (channel_put ts chans w.name old new k (values_of ts rest) refl refl refl refl))
