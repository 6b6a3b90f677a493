use Rattle.std.proofs.Common.{◌∙◌, ap, arith, ◌≤◌, length, List, get_or}
use Rattle.std.specs.Prelude.{None}
use Rattle.go_type.specs.Table.{places}
use Rattle.go_core.specs.CoreView.{program_view}
use Rattle.go_core.specs.Goroutine as core
use Rattle.go_core.specs.Run.{after, step}
use Rattle.go_state.specs.StateSeen.{move_of, state_of}
use Rattle.go_state.specs.declared.state.state.Move.{Move}
use Rattle.go_state.proofs.ListsLemmas.{drop_past}
use Rattle.go_play.proofs.RunLemmas.{after_made, after_refused, drop_read, was_made, was_refused}
use Rattle.go_play.proofs.play.play.advance.Goals as goal

pub moves-preserved : goal.moves-preserved
moves-preserved c =
    let q = program_view c.args.p.now in
    let ts = places c.args.p.now.types in
    let choices = c.args.choices.now in
    let ms = c.args.moves.now in
    let d : Move = record { goroutine = 0; way = 0; partner = 0; partner_way = 0; capacity = 0; birth = None } in
    let x = get_or ms c.moves.i d in
    c.moves.invariant
    ∙ after_made q choices _ _ (move_of x) (state_of ts c.moves.state) (state_of ts c.step.new.state)
    (drop_read move_of ms c.moves.i d c.moves-test.true)
    (was_made ts c.in_ok-made.made c.step.new.state (step q choices (move_of x) (state_of ts c.moves.state)) c.if-not-made.false c.in_ok-made.ensures.value)

pub returns-then-not-made : goal.returns-then-not-made
returns-then-not-made c = record {
  value =
      let q = program_view c.args.p.now in
      let ts = places c.args.p.now.types in
      let choices = c.args.choices.now in
      let ms = c.args.moves.now in
      let d : Move = record { goroutine = 0; way = 0; partner = 0; partner_way = 0; capacity = 0; birth = None } in
      let x = get_or ms c.moves.i d in
      c.moves.invariant
      ∙ after_refused q choices _ _ (move_of x) (state_of ts c.moves.state)
      (drop_read move_of ms c.moves.i d c.moves-test.true)
      (was_refused ts c.in_ok-made.made c.step.new.state (step q choices (move_of x) (state_of ts c.moves.state)) c.if-not-made.true c.in_ok-made.ensures.value);
}

pub returns : goal.returns
returns c = record {
  value =
      let q = program_view c.args.p.now in
      let ts = places c.args.p.now.types in
      let ms = c.args.moves.now in
      let l : length ms ≤ c.moves.i = omega (arith, c.moves-test.false) in
      c.moves.invariant ∙ ap (λ (rest : List core.Move). after q c.args.choices.now rest (state_of ts c.moves.state)) (drop_past move_of ms c.moves.i l);
}
