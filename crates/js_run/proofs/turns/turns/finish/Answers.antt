use Rattle.std.proofs.Common.{arith}
use Rattle.std.specs.Prelude.{Err}
use Rattle.js_run.specs.WalkLaws.{walks_begin, walks_then, walks_given_up}
use Rattle.js_run.proofs.Tops.{ends_so}
use Rattle.js_run.proofs.turns.turns.finish.Goals as goal

pub turns-init : goal.turns-init
turns-init g c = record { walked = walks_begin c.args.env.now c.args.stack.now.items c.args.state.now _ _ c.args.first; room = omega arith }

pub turns-preserved : goal.turns-preserved
turns-preserved g c = record {
  walked =
      walks_then c.args.env.now c.args.stack.now.items c.turns.stack.items c.advance.new.stack.items c.args.state.now c.turns.state c.advance.new.state _ _ _ _ _ _ c.turns.task _ _ c.turns.invariant.walked
      c.in_ok-task.ensures.keeps;
  room = omega (arith, c.turns.invariant.room, c.in_ok-task.ensures.room);
}

pub returns-in_err-task-clause-keeps : goal.returns-in_err-task-clause-keeps
returns-in_err-task-clause-keeps g c =
    ends_so c.args.env.now c.args.stack.now.items c.advance.new.stack.items c.args.state.now c.advance.new.state _ _ _ _ _ _ c.from_residual.result c.from_residual.ensures.1
    (walks_then c.args.env.now c.args.stack.now.items c.turns.stack.items c.advance.new.stack.items c.args.state.now c.turns.state c.advance.new.state _ _ _ _ _ _ c.turns.task (Err _) _ c.turns.invariant.walked
    c.in_err-task.ensures.keeps)

pub returns-clause-keeps : goal.returns-clause-keeps
returns-clause-keeps g c =
    walks_given_up c.args.env.now c.args.stack.now.items c.turns.stack.items c.args.state.now c.turns.state _ _ _ _ c.turns.task _ c.turns.invariant.walked
