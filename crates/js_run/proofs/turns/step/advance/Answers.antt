use Rattle.std.proofs.Common.{arith}
use Rattle.js_steps.specs.declared.frames.frame.Task.TheVariants as task
use Rattle.js_steps.specs.Stack.{task_does}
use Rattle.js_run.proofs.Tops.{any_env, by_task, with_task}
use Rattle.js_run.proofs.turns.step.advance.Goals as goal

pub returns-in-Evaluate : goal.returns-in-Evaluate
returns-in-Evaluate g c = record {
  keeps =
      by_task c.args.env.now c.args.stack.now.items c.evaluate.new.stack.items c.args.state.now c.evaluate.new.state _ _ c.args.task (task.Evaluate c.in-Evaluate.i) c.evaluate.result c.next.result c.in-Evaluate.is c.next.ensures.value c.evaluate.ensures.keeps;
  room = omega arith;
}

pub returns-in-Execute : goal.returns-in-Execute
returns-in-Execute g c = record {
  keeps =
      by_task c.args.env.now c.args.stack.now.items c.execute.new.stack.items c.args.state.now c.execute.new.state _ _ c.args.task (task.Execute c.in-Execute.i) c.execute.result c.next-in-Execute.result c.in-Execute.is c.next-in-Execute.ensures.value c.execute.ensures.keeps;
  room = omega arith;
}

pub returns-in-Statements : goal.returns-in-Statements
returns-in-Statements g c = record {
  keeps =
      by_task c.args.env.now c.args.stack.now.items c.statements_at_once.new.stack.items c.args.state.now c.statements_at_once.new.state _ _ c.args.task (task.Statements c.in-Statements.i) c.statements_at_once.result c.next-in-Statements.result c.in-Statements.is c.next-in-Statements.ensures.value (any_env c.args.env.now c.args.stack.now.items c.statements_at_once.new.stack.items c.args.state.now c.statements_at_once.new.state c.statements_at_once.result (λ st. task_does st (task.Statements c.in-Statements.i)) c.statements_at_once.ensures.keeps);
  room = omega arith;
}

pub returns-in-Else : goal.returns-in-Else
returns-in-Else g c = record {
  keeps =
      by_task c.args.env.now c.args.stack.now.items c.otherwise.new.stack.items c.args.state.now c.otherwise.new.state _ _ c.args.task (task.Else c.in-Else.i) c.otherwise.result c.next-in-Else.result c.in-Else.is c.next-in-Else.ensures.value (any_env c.args.env.now c.args.stack.now.items c.otherwise.new.stack.items c.args.state.now c.otherwise.new.state c.otherwise.result (λ st. task_does st (task.Else c.in-Else.i)) c.otherwise.ensures.keeps);
  room = omega arith;
}

pub returns-in-Through : goal.returns-in-Through
returns-in-Through g c = record {
  keeps =
      by_task c.args.env.now c.args.stack.now.items c.through.new.stack.items c.args.state.now c.args.state.now _ _ c.args.task (task.Through c.in-Through.i) c.through.result c.next-in-Through.result c.in-Through.is c.next-in-Through.ensures.value (any_env c.args.env.now c.args.stack.now.items c.through.new.stack.items c.args.state.now c.args.state.now c.through.result (λ st. task_does st (task.Through c.in-Through.i)) c.through.ensures.keeps);
  room = omega arith;
}

pub returns-in-Give : goal.returns-in-Give
returns-in-Give g c = record {
  keeps =
      by_task c.args.env.now c.args.stack.now.items c.give_top.new.stack.items c.args.state.now c.give_top.new.state _ _ c.args.task (task.Give c.in-Give.v) c.give_top.result c.next-in-Give.result c.in-Give.is c.next-in-Give.ensures.value c.give_top.ensures.keeps;
  room = omega arith;
}

pub returns-in-Follow : goal.returns-in-Follow
returns-in-Follow g c = record {
  keeps =
      by_task c.args.env.now c.args.stack.now.items c.follow_top.new.stack.items c.args.state.now c.follow_top.new.state _ _ c.args.task (task.Follow c.in-Follow.completion) c.follow_top.result c.next-in-Follow.result c.in-Follow.is c.next-in-Follow.ensures.value (any_env c.args.env.now c.args.stack.now.items c.follow_top.new.stack.items c.args.state.now c.follow_top.new.state c.follow_top.result (λ st. task_does st (task.Follow c.in-Follow.completion)) c.follow_top.ensures.keeps);
  room = omega arith;
}

pub returns-in-Throw : goal.returns-in-Throw
returns-in-Throw g c = record {
  keeps =
      by_task c.args.env.now c.args.stack.now.items c.unwind_top.new.stack.items c.args.state.now c.unwind_top.new.state _ _ c.args.task (task.Throw c.in-Throw.at c.in-Throw.v) c.unwind_top.result c.next-in-Throw.result c.in-Throw.is c.next-in-Throw.ensures.value (any_env c.args.env.now c.args.stack.now.items c.unwind_top.new.stack.items c.args.state.now c.unwind_top.new.state c.unwind_top.result (λ st. task_does st (task.Throw c.in-Throw.at c.in-Throw.v)) c.unwind_top.ensures.keeps);
  room = omega arith;
}

pub returns-in-Write : goal.returns-in-Write
returns-in-Write g c = record {
  keeps =
      with_task c.args.env.now c.args.stack.now.items c.args.stack.now.items c.args.state.now c.written.new.state _ _ _ _ c.args.task (task.Write c.in-Write.at c.in-Write.usage c.in-Write.text) c.written.result c.in-Write.is
      (c.written.ensures.keeps c.args.env.now c.args.stack.now.items _);
  room = omega arith;
}

pub returns-in-Pick : goal.returns-in-Pick
returns-in-Pick g c = record {
  keeps =
      with_task c.args.env.now c.args.stack.now.items c.args.stack.now.items c.args.state.now c.picked.new.state _ _ _ _ c.args.task (task.Pick c.in-Pick.at c.in-Pick.usage c.in-Pick.k) c.picked.result c.in-Pick.is
      (c.picked.ensures.keeps c.args.env.now c.args.stack.now.items _);
  room = c.picked.ensures.one;
}
