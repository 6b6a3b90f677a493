use Rattle.std.proofs.Common.{◌≤◌, ◌<◌, ◌%◌, refl, arith, length}
use Rattle.go_state.specs.StateSeen.{state_of}
use Rattle.go_partners.specs.Moves.{with_frames}
use Rattle.go_partners.proofs.ReachLemmas.{chosen_one, chosen_more, only_one}
use Rattle.go_partners.proofs.selects.reach.choose.Goals as goal

pub returns-then-ready-eq1-clause-value : goal.returns-then-ready-eq1-clause-value
returns-then-ready-eq1-clause-value c = λ ts p g move d offers f fs below.
    let s = with_frames g fs (state_of ts c.args.state.now) in
    chosen_one p g move c.args.choices.now c.args.units offers f below s d c.args.ready.now _ c.in_ok-all.all (only_one c.args.ready.now c.if-ready-eq1.true) c.in_ok-all.ensures.value

pub returns-clause-value : goal.returns-clause-value
returns-clause-value c = λ ts p g move d offers f fs below.
    let s = with_frames g fs (state_of ts c.args.state.now) in
    let ready = c.args.ready.now in
    let number = c.next_number-number.result in
    let some = c.requires.some in
    let other = c.if-ready-eq1.false in
    let l : 2 ≤ length ready = omega (arith, some, other) in
    let b : number % length ready < length ready = omega (arith, some) in
    chosen_more p g move c.args.choices.now c.args.units offers f below s d ready _ c.in_ok-all.all c.in_ok-taken.taken number l c.next_number-number.ensures.value b refl c.in_ok-all.ensures.value c.in_ok-taken.ensures.value
