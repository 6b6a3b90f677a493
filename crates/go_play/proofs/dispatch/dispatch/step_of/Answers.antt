use Rattle.std.proofs.Common.{sym, subst}
use Rattle.std.specs.Prelude.{Bool}
use Rattle.go_type.specs.Table.{places}
use Rattle.go_core.specs.CoreView.{program_view}
use Rattle.go_core.specs.GoStep as steps
use Rattle.go_entries.specs.DoingSeen.{doing_of}
use Rattle.go_entries.specs.declared.doing.task.Doing.{Doing}
use Rattle.go_state.specs.StateSeen.{move_of}
use Rattle.go_state.specs.declared.state.state.State as held
use Rattle.go_state.proofs.TodoLemmas.{if_ok}
use Rattle.go_play.specs.Plays.{Plays}
use Rattle.go_play.proofs.dispatch.dispatch.step_of.Goals as goal

pub returns-in-Operate : goal.returns-in-Operate
returns-in-Operate c = record {
  value = if_ok c.operate_task.result (λ b h. subst (λ (d : Doing). let ts = places c.args.game.p.now.types in Plays ts c.args.g b c.args.frame c.args.state.now c.operate_task.new.state (steps.task_step (program_view c.args.game.p.now) c.args.game.choices.now (move_of c.args.game.free) c.args.g (doing_of ts d))) (sym c.in-Operate.is) h) c.operate_task.ensures.value;
}

pub returns-in-Build : goal.returns-in-Build
returns-in-Build c = record {
  value = if_ok c.build_task.result (λ b h. subst (λ (d : Doing). let ts = places c.args.game.p.now.types in Plays ts c.args.g b c.args.frame c.args.state.now c.build_task.new.state (steps.task_step (program_view c.args.game.p.now) c.args.game.choices.now (move_of c.args.game.free) c.args.g (doing_of ts d))) (sym c.in-Build.is) h) c.build_task.ensures.value;
}

pub returns-in-AtLocal : goal.returns-in-AtLocal
returns-in-AtLocal c = record {
  value = if_ok c.local_task.result (λ b h. subst (λ (d : Doing). let ts = places c.args.game.p.now.types in Plays ts c.args.g b c.args.frame c.args.state.now c.local_task.new.state (steps.task_step (program_view c.args.game.p.now) c.args.game.choices.now (move_of c.args.game.free) c.args.g (doing_of ts d))) (sym c.in-AtLocal.is) h) c.local_task.ensures.value;
}

pub returns-in-MakeClosure : goal.returns-in-MakeClosure
returns-in-MakeClosure c = record {
  value = if_ok c.closure_task.result (λ b h. subst (λ (d : Doing). let ts = places c.args.game.p.now.types in Plays ts c.args.g b c.args.frame c.args.state.now c.closure_task.new.state (steps.task_step (program_view c.args.game.p.now) c.args.game.choices.now (move_of c.args.game.free) c.args.g (doing_of ts d))) (sym c.in-MakeClosure.is) h) c.closure_task.ensures.value;
}

pub returns-in-OnlyWhereTrue : goal.returns-in-OnlyWhereTrue
returns-in-OnlyWhereTrue c = record {
  value = if_ok c.true_task.result (λ b h. subst (λ (d : Doing). let ts = places c.args.game.p.now.types in Plays ts c.args.g b c.args.frame c.args.state.now c.true_task.new.state (steps.task_step (program_view c.args.game.p.now) c.args.game.choices.now (move_of c.args.game.free) c.args.g (doing_of ts d))) (sym c.in-OnlyWhereTrue.is) h) c.true_task.ensures.value;
}

pub returns-in-OnlyWhereFalse : goal.returns-in-OnlyWhereFalse
returns-in-OnlyWhereFalse c = record {
  value = if_ok c.false_task.result (λ b h. subst (λ (d : Doing). let ts = places c.args.game.p.now.types in Plays ts c.args.g b c.args.frame c.args.state.now c.false_task.new.state (steps.task_step (program_view c.args.game.p.now) c.args.game.choices.now (move_of c.args.game.free) c.args.g (doing_of ts d))) (sym c.in-OnlyWhereFalse.is) h) c.false_task.ensures.value;
}

pub returns-in-BindVars : goal.returns-in-BindVars
returns-in-BindVars c = record {
  value = if_ok c.bind_task.result (λ b h. subst (λ (d : Doing). let ts = places c.args.game.p.now.types in Plays ts c.args.g b c.args.frame c.args.state.now c.bind_task.new.state (steps.task_step (program_view c.args.game.p.now) c.args.game.choices.now (move_of c.args.game.free) c.args.g (doing_of ts d))) (sym c.in-BindVars.is) h) c.bind_task.ensures.value;
}

pub returns-in-DeclareVar : goal.returns-in-DeclareVar
returns-in-DeclareVar c = record {
  value = if_ok c.declare_task.result (λ b h. subst (λ (d : Doing). let ts = places c.args.game.p.now.types in Plays ts c.args.g b c.args.frame c.args.state.now c.declare_task.new.state (steps.task_step (program_view c.args.game.p.now) c.args.game.choices.now (move_of c.args.game.free) c.args.g (doing_of ts d))) (sym c.in-DeclareVar.is) h) c.declare_task.ensures.value;
}

pub returns-in-Assign : goal.returns-in-Assign
returns-in-Assign c = record {
  value = if_ok c.assign_task.result (λ b h. subst (λ (d : Doing). let ts = places c.args.game.p.now.types in Plays ts c.args.g b c.args.frame c.args.state.now c.assign_task.new.state (steps.task_step (program_view c.args.game.p.now) c.args.game.choices.now (move_of c.args.game.free) c.args.g (doing_of ts d))) (sym c.in-Assign.is) h) c.assign_task.ensures.value;
}

pub returns-in-Choose : goal.returns-in-Choose
returns-in-Choose c = record {
  value = if_ok c.choose_task.result (λ b h. subst (λ (d : Doing). let ts = places c.args.game.p.now.types in Plays ts c.args.g b c.args.frame c.args.state.now c.choose_task.new.state (steps.task_step (program_view c.args.game.p.now) c.args.game.choices.now (move_of c.args.game.free) c.args.g (doing_of ts d))) (sym c.in-Choose.is) h) c.choose_task.ensures.value;
}

pub returns-in-Turn : goal.returns-in-Turn
returns-in-Turn c = record {
  value = if_ok c.turn_task.result (λ b h. subst (λ (d : Doing). let ts = places c.args.game.p.now.types in Plays ts c.args.g b c.args.frame c.args.state.now c.turn_task.new.state (steps.task_step (program_view c.args.game.p.now) c.args.game.choices.now (move_of c.args.game.free) c.args.g (doing_of ts d))) (sym c.in-Turn.is) h) c.turn_task.ensures.value;
}

pub returns-in-TurnAgain : goal.returns-in-TurnAgain
returns-in-TurnAgain c = record {
  value = if_ok c.again_task.result (λ b h. subst (λ (d : Doing). let ts = places c.args.game.p.now.types in Plays ts c.args.g b c.args.frame c.args.state.now c.again_task.new.state (steps.task_step (program_view c.args.game.p.now) c.args.game.choices.now (move_of c.args.game.free) c.args.g (doing_of ts d))) (sym c.in-TurnAgain.is) h) c.again_task.ensures.value;
}

pub returns-in-ChooseClause : goal.returns-in-ChooseClause
returns-in-ChooseClause c = record {
  value = if_ok c.clause_task.result (λ b h. subst (λ (d : Doing). let ts = places c.args.game.p.now.types in Plays ts c.args.g b c.args.frame c.args.state.now c.clause_task.new.state (steps.task_step (program_view c.args.game.p.now) c.args.game.choices.now (move_of c.args.game.free) c.args.g (doing_of ts d))) (sym c.in-ChooseClause.is) h) c.clause_task.ensures.value;
}

pub returns-in-ChooseDefault : goal.returns-in-ChooseDefault
returns-in-ChooseDefault c = record {
  value = if_ok c.default_task.result (λ b h. subst (λ (d : Doing). let ts = places c.args.game.p.now.types in Plays ts c.args.g b c.args.frame c.args.state.now c.default_task.new.state (steps.task_step (program_view c.args.game.p.now) c.args.game.choices.now (move_of c.args.game.free) c.args.g (doing_of ts d))) (sym c.in-ChooseDefault.is) h) c.default_task.ensures.value;
}

pub returns-in-BeginRange : goal.returns-in-BeginRange
returns-in-BeginRange c = record {
  value = if_ok c.begin_range_task.result (λ b h. subst (λ (d : Doing). let ts = places c.args.game.p.now.types in Plays ts c.args.g b c.args.frame c.args.state.now c.begin_range_task.new.state (steps.task_step (program_view c.args.game.p.now) c.args.game.choices.now (move_of c.args.game.free) c.args.g (doing_of ts d))) (sym c.in-BeginRange.is) h) c.begin_range_task.ensures.value;
}

pub returns-in-BranchTo : goal.returns-in-BranchTo
returns-in-BranchTo c = record {
  value = if_ok c.branch_task.result (λ b h. subst (λ (d : Doing). let ts = places c.args.game.p.now.types in Plays ts c.args.g b c.args.frame c.args.state.now c.branch_task.new.state (steps.task_step (program_view c.args.game.p.now) c.args.game.choices.now (move_of c.args.game.free) c.args.g (doing_of ts d))) (sym c.in-BranchTo.is) h) c.branch_task.ensures.value;
}

pub returns-in-Call : goal.returns-in-Call
returns-in-Call c = record {
  value = if_ok c.call_task.result (λ b h. subst (λ (d : Doing). let ts = places c.args.game.p.now.types in Plays ts c.args.g b c.args.frame c.args.state.now c.call_task.new.state (steps.task_step (program_view c.args.game.p.now) c.args.game.choices.now (move_of c.args.game.free) c.args.g (doing_of ts d))) (sym c.in-Call.is) h) c.call_task.ensures.value;
}

pub returns-in-Go : goal.returns-in-Go
returns-in-Go c = record {
  value = if_ok c.go_task.result (λ b h. subst (λ (d : Doing). let ts = places c.args.game.p.now.types in Plays ts c.args.g b c.args.frame c.args.state.now c.go_task.new.state (steps.task_step (program_view c.args.game.p.now) c.args.game.choices.now (move_of c.args.game.free) c.args.g (doing_of ts d))) (sym c.in-Go.is) h) c.go_task.ensures.value;
}

pub returns-in-Defer : goal.returns-in-Defer
returns-in-Defer c = record {
  value = if_ok c.defer_task.result (λ b h. subst (λ (d : Doing). let ts = places c.args.game.p.now.types in Plays ts c.args.g b c.args.frame c.args.state.now c.defer_task.new.state (steps.task_step (program_view c.args.game.p.now) c.args.game.choices.now (move_of c.args.game.free) c.args.g (doing_of ts d))) (sym c.in-Defer.is) h) c.defer_task.ensures.value;
}

pub returns-in-Return : goal.returns-in-Return
returns-in-Return c = record {
  value = if_ok c.return_task.result (λ b h. subst (λ (d : Doing). let ts = places c.args.game.p.now.types in Plays ts c.args.g b c.args.frame c.args.state.now c.return_task.new.state (steps.task_step (program_view c.args.game.p.now) c.args.game.choices.now (move_of c.args.game.free) c.args.g (doing_of ts d))) (sym c.in-Return.is) h) c.return_task.ensures.value;
}

pub returns-in-Panic : goal.returns-in-Panic
returns-in-Panic c = record {
  value = if_ok c.panic_task.result (λ b h. subst (λ (d : Doing). let ts = places c.args.game.p.now.types in Plays ts c.args.g b c.args.frame c.args.state.now c.panic_task.new.state (steps.task_step (program_view c.args.game.p.now) c.args.game.choices.now (move_of c.args.game.free) c.args.g (doing_of ts d))) (sym c.in-Panic.is) h) c.panic_task.ensures.value;
}

pub returns-in-Recover : goal.returns-in-Recover
returns-in-Recover c = record {
  value = if_ok c.recover_task.result (λ b h. subst (λ (d : Doing). let ts = places c.args.game.p.now.types in Plays ts c.args.g b c.args.frame c.args.state.now c.recover_task.new.state (steps.task_step (program_view c.args.game.p.now) c.args.game.choices.now (move_of c.args.game.free) c.args.g (doing_of ts d))) (sym c.in-Recover.is) h) c.recover_task.ensures.value;
}

pub returns-in-SendTo : goal.returns-in-SendTo
returns-in-SendTo c = record {
  value = if_ok c.send_task.result (λ b h. subst (λ (d : Doing). let ts = places c.args.game.p.now.types in Plays ts c.args.g b c.args.frame c.args.state.now c.send_task.new.state (steps.task_step (program_view c.args.game.p.now) c.args.game.choices.now (move_of c.args.game.free) c.args.g (doing_of ts d))) (sym c.in-SendTo.is) h) c.send_task.ensures.value;
}

pub returns-in-ReceiveFrom : goal.returns-in-ReceiveFrom
returns-in-ReceiveFrom c = record {
  value = if_ok c.receive_task.result (λ b h. subst (λ (d : Doing). let ts = places c.args.game.p.now.types in Plays ts c.args.g b c.args.frame c.args.state.now c.receive_task.new.state (steps.task_step (program_view c.args.game.p.now) c.args.game.choices.now (move_of c.args.game.free) c.args.g (doing_of ts d))) (sym c.in-ReceiveFrom.is) h) c.receive_task.ensures.value;
}

pub returns-in-Close : goal.returns-in-Close
returns-in-Close c = record {
  value = if_ok c.close_task.result (λ b h. subst (λ (d : Doing). let ts = places c.args.game.p.now.types in Plays ts c.args.g b c.args.frame c.args.state.now c.close_task.new.state (steps.task_step (program_view c.args.game.p.now) c.args.game.choices.now (move_of c.args.game.free) c.args.g (doing_of ts d))) (sym c.in-Close.is) h) c.close_task.ensures.value;
}

pub returns-in-SelectFrom : goal.returns-in-SelectFrom
returns-in-SelectFrom c = record {
  value = if_ok c.select_task.result (λ b h. subst (λ (d : Doing). let ts = places c.args.game.p.now.types in Plays ts c.args.g b c.args.frame c.args.state.now c.select_task.new.state (steps.task_step (program_view c.args.game.p.now) c.args.game.choices.now (move_of c.args.game.free) c.args.g (doing_of ts d))) (sym c.in-SelectFrom.is) h) c.select_task.ensures.value;
}

pub returns-in-TakeGate : goal.returns-in-TakeGate
returns-in-TakeGate c = record {
  value = if_ok c.take_gate_task.result (λ b h. subst (λ (d : Doing). let ts = places c.args.game.p.now.types in Plays ts c.args.g b c.args.frame c.args.state.now c.take_gate_task.new.state (steps.task_step (program_view c.args.game.p.now) c.args.game.choices.now (move_of c.args.game.free) c.args.g (doing_of ts d))) (sym c.in-TakeGate.is) h) c.take_gate_task.ensures.value;
}

pub returns-in-AddToGate : goal.returns-in-AddToGate
returns-in-AddToGate c = record {
  value = if_ok c.add_gate_task.result (λ b h. subst (λ (d : Doing). let ts = places c.args.game.p.now.types in Plays ts c.args.g b c.args.frame c.args.state.now c.add_gate_task.new.state (steps.task_step (program_view c.args.game.p.now) c.args.game.choices.now (move_of c.args.game.free) c.args.g (doing_of ts d))) (sym c.in-AddToGate.is) h) c.add_gate_task.ensures.value;
}

pub returns-in-AwaitGate : goal.returns-in-AwaitGate
returns-in-AwaitGate c = record {
  value = if_ok c.await_gate_task.result (λ b h. subst (λ (d : Doing). let ts = places c.args.game.p.now.types in Plays ts c.args.g b c.args.frame c.args.state.now c.await_gate_task.new.state (steps.task_step (program_view c.args.game.p.now) c.args.game.choices.now (move_of c.args.game.free) c.args.g (doing_of ts d))) (sym c.in-AwaitGate.is) h) c.await_gate_task.ensures.value;
}

pub returns-in-Yield : goal.returns-in-Yield
returns-in-Yield c = record {
  value = if_ok c.yield_task.result (λ b h. subst (λ (d : Doing). let ts = places c.args.game.p.now.types in Plays ts c.args.g b c.args.frame c.args.state.now c.yield_task.new.state (steps.task_step (program_view c.args.game.p.now) c.args.game.choices.now (move_of c.args.game.free) c.args.g (doing_of ts d))) (sym c.in-Yield.is) h) c.yield_task.ensures.value;
}

pub returns-in-Print : goal.returns-in-Print
returns-in-Print c = record {
  value = if_ok c.print_task.result (λ b h. subst (λ (d : Doing). let ts = places c.args.game.p.now.types in Plays ts c.args.g b c.args.frame c.args.state.now c.print_task.new.state (steps.task_step (program_view c.args.game.p.now) c.args.game.choices.now (move_of c.args.game.free) c.args.g (doing_of ts d))) (sym c.in-Print.is) h) c.print_task.ensures.value;
}

pub returns-in-Exit : goal.returns-in-Exit
returns-in-Exit c = record {
  value = if_ok c.exit_task.result (λ b h. subst (λ (d : Doing). let ts = places c.args.game.p.now.types in Plays ts c.args.g b c.args.frame c.args.state.now c.exit_task.new.state (steps.task_step (program_view c.args.game.p.now) c.args.game.choices.now (move_of c.args.game.free) c.args.g (doing_of ts d))) (sym c.in-Exit.is) h) c.exit_task.ensures.value;
}

pub returns-in-Fatal : goal.returns-in-Fatal
returns-in-Fatal c = record {
  value = if_ok c.fatal_task.result (λ b h. subst (λ (d : Doing). let ts = places c.args.game.p.now.types in Plays ts c.args.g b c.args.frame c.args.state.now c.fatal_task.new.state (steps.task_step (program_view c.args.game.p.now) c.args.game.choices.now (move_of c.args.game.free) c.args.g (doing_of ts d))) (sym c.in-Fatal.is) h) c.fatal_task.ensures.value;
}
