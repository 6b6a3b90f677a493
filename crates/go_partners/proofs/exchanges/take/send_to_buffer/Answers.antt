use Rattle.std.proofs.Common.{[], ◌+◌}
use Rattle.go_core.specs.Communicate.{done_with, with_sent}
use Rattle.go_core.specs.Memory.{set_channel}
use Rattle.go_values.specs.ValuesSeen.{memory_of, value_of}
use Rattle.go_state.specs.StateSeen.{after_of, frame_of, state_of}
use Rattle.go_partners.specs.Moves.{frames_below}
use Rattle.go_partners.proofs.TakeLemmas.{memory_moves}
use Rattle.go_partners.proofs.exchanges.take.send_to_buffer.Goals as goal

pub returns-clause-value : goal.returns-clause-value
returns-clause-value c = λ p ts g free k h fs.
    let w = c.args.what in
    let s = state_of ts c.args.state.now in
    memory_moves g fs (frames_below g s) s (done_with [] (after_of ts w.after) (frame_of ts c.args.f.now)) _ (1 + w.units) c.in_ok-units.units (set_channel s.memory w.name (with_sent p g free (value_of ts w.value.now) k)) (memory_of ts c.put.new.m)
    (c.in_ok-units.ensures.frame ts) c.in_ok-units.ensures.value (c.in_ok-put.ensures.value ts p g free k h)
