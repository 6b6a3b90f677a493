use Rattle.std.proofs.Common.{◌≤◌, ◌+◌, length}
use Rattle.std.specs.Prelude.{Ok}
use Rattle.js_steps.specs.Stack.{task_does}
use Rattle.js_run.specs.Walks.{Walks}
use Rattle.js_run.proofs.turns.turns.finish.Given as goal

-- what was done so far, and no more numbers than steps
abbrev pub invariant-turns : goal.invariant-turns
invariant-turns g l = record {
  walked : Walks l.env l.fn.stack.items l.fn.state (g.C.Choices.taken l.fn.choices) (g.C.Choices.taken l.choices) (g.O.Sink.state l.fn.out) (g.O.Sink.state l.out) l.stack.items l.state (Ok l.task) (λ st. task_does st l.fn.first);
  room : length (g.C.Choices.taken l.choices) + l.steps ≤ length (g.C.Choices.taken l.fn.choices) + l.fn.steps;
}

abbrev pub decreases-turns : goal.decreases-turns
decreases-turns g l = l.steps
