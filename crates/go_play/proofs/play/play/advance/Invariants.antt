use Rattle.std.proofs.Common.{◌≡◌, map, drop}
use Rattle.go_type.specs.Table.{places}
use Rattle.go_core.specs.CoreView.{program_view}
use Rattle.go_core.specs.Run.{after}
use Rattle.go_state.specs.StateSeen.{move_of, state_of}
use Rattle.go_play.proofs.play.play.advance.Given as goal

abbrev pub invariant-moves : goal.invariant-moves
invariant-moves l =
    let ts = places l.p.types in
    after (program_view l.p) l.choices (map move_of l.moves) (state_of ts l.fn.state) ≡ after (program_view l.p) l.choices (drop l.i (map move_of l.moves)) (state_of ts l.state)
