use Rattle.std.proofs.Common.{ap}
use Rattle.go_type.specs.Table.{places}
use Rattle.go_core.specs.CoreView.{program_view}
use Rattle.go_core.specs.Run.{while_going}
use Rattle.go_state.specs.StateSeen.{end_of, move_of, state_of}
use Rattle.go_state.specs.declared.state.state.End.{End}
use Rattle.go_state.proofs.TodoLemmas.{if_ok}
use Rattle.go_play.specs.Comes.{free_step}
use Rattle.go_play.proofs.RunLemmas.{steps_as}
use Rattle.go_play.proofs.play.step.step.Goals as goal

pub returns-in-Going : goal.returns-in-Going
returns-in-Going c =
    let q = program_view c.args.game.p.now in
    let ts = places c.args.game.p.now.types in
    let next = free_step q c.args.game.choices.now (move_of c.args.game.free) (state_of ts c.args.state.now) in
    record {
      value = if_ok c.going_step.result (λ b h. steps_as ts b c.going_step.new.state _ _ (ap (λ (e : End). while_going (end_of e) next) c.in-Going.is) h) c.going_step.ensures.value;
    }

pub returns-in-Exit : goal.returns-in-Exit
returns-in-Exit c =
    let q = program_view c.args.game.p.now in
    let ts = places c.args.game.p.now.types in
    let next = free_step q c.args.game.choices.now (move_of c.args.game.free) (state_of ts c.args.state.now) in
    record { value = ap (λ (e : End). while_going (end_of e) next) c.in-Exit.is }

pub returns-in-Panicked : goal.returns-in-Panicked
returns-in-Panicked c =
    let q = program_view c.args.game.p.now in
    let ts = places c.args.game.p.now.types in
    let next = free_step q c.args.game.choices.now (move_of c.args.game.free) (state_of ts c.args.state.now) in
    record { value = ap (λ (e : End). while_going (end_of e) next) c.in-Panicked.is }

pub returns-in-Fatal : goal.returns-in-Fatal
returns-in-Fatal c =
    let q = program_view c.args.game.p.now in
    let ts = places c.args.game.p.now.types in
    let next = free_step q c.args.game.choices.now (move_of c.args.game.free) (state_of ts c.args.state.now) in
    record { value = ap (λ (e : End). while_going (end_of e) next) c.in-Fatal.is }
