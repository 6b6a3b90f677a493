use Rattle.std.proofs.Common.{◌<◌, ◌≤◌, ◌∙◌, ap, arith, ℕ, ◌+◌, List, length, map}
use Rattle.go_core.specs.Communicate.{closed_at, waiting_at}
use Rattle.go_values.specs.ValuesSeen.{channel_of, memory_of}
use Rattle.go_state.specs.StateSeen.{frame_of, goroutine_of, state_of}
use Rattle.go_state.specs.declared.state.state.Goroutine.{Goroutine}
use Rattle.go_state.proofs.ListsLemmas.{get_past}
use Rattle.go_partners.specs.Moves.{frames_below, with_frames}
use Rattle.go_partners.proofs.TakeLemmas.{missing}
use Rattle.go_partners.proofs.StopLemmas.{channel_there}
use Rattle.go_partners.proofs.ReachLemmas.{talks_same}
use Rattle.go_partners.proofs.CloseLemmas.{close_there, closed_again, closed_now}
use Rattle.go_partners.proofs.talk_steps.close.close_named.Goals as goal

pub returns-then-name-len-clause-value : goal.returns-then-name-len-clause-value
returns-then-name-len-clause-value c = λ p ts free fs.
    let g = c.args.g in
    let s = state_of ts c.args.state.now in
    let chans = c.args.state.now.memory.channels.items in
    let counted = c.args.state.now.memory.channels.ok.0 in
    let l : length chans ≤ c.args.name = omega (arith, c.if-name-len.true, c.len.ensures, counted) in
    missing p g free c.args.name (with_frames g fs s) (λ n k. closed_at p g free n k (frame_of ts c.args.f.now) (frames_below g s) (with_frames g fs s)) (get_past (channel_of ts) chans c.args.name l)

pub returns-then-index-clause-value : goal.returns-then-index-clause-value
returns-then-index-clause-value c = λ p ts free fs.
    let g = c.args.g in
    let s = state_of ts c.args.state.now in
    let chans = c.args.state.now.memory.channels.items in
    let counted = c.args.state.now.memory.channels.ok.0 in
    let l : c.args.name < length chans = omega (arith, c.if-name-len.false, c.len.ensures, counted) in
    let k = channel_of ts c.index.result.now in
    let f = frame_of ts c.args.f.now in
    let below = frames_below g s in
    close_there p g free c.args.name k fs below f s (channel_there ts chans c.args.name c.index.result.now l c.index.ensures)
    ∙ closed_again p g free c.args.name k fs below f s c.if-index.true

pub returns-clause-value : goal.returns-clause-value
returns-clause-value c = λ p ts free fs.
    let g = c.args.g in
    let s = state_of ts c.args.state.now in
    let chans = c.args.state.now.memory.channels.items in
    let counted = c.args.state.now.memory.channels.ok.0 in
    let l : c.args.name < length chans = omega (arith, c.if-name-len.false, c.len.ensures, counted) in
    let k = channel_of ts c.index.result.now in
    let e = channel_there ts chans c.args.name c.index.result.now l c.index.ensures in
    let f = frame_of ts c.args.f.now in
    let below = frames_below g s in
    talks_same p ts g _ c.able.result _ _ _ c.able.ensures.value
    (close_there p g free c.args.name k fs below f s e
    ∙ closed_now p g free c.args.name k fs below f s c.in_ok-units.units (memory_of ts c.shut.new.m) c.if-index.false
    (c.in_ok-units.ensures.value ∙ ap (λ (k : ℕ). 1 + k) (c.waiting_at.ensures.value ts p g free ∙ ap (λ (xs : List Goroutine). waiting_at p g free c.args.name (map (goroutine_of ts) xs)) c.as_slice.ensures.value))
    (c.shut.ensures.value ts k e))
