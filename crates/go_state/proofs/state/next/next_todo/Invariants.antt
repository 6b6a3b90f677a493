use Rattle.std.proofs.Common.{◌≡◌, List}
use Rattle.go_type.specs.Tree.{Ty}
use Rattle.go_state.specs.StateSeen.{tasks_of, stack_of}
use Rattle.go_state.specs.Passed.{passed}
use Rattle.go_state.specs.Measure.{measure}
use Rattle.go_state.proofs.state.next.next_todo.Given as goal

abbrev pub invariant-tasks : goal.invariant-tasks
invariant-tasks l =
    (ts : List Ty) → passed (tasks_of ts l.fn.tasks.items) (stack_of ts l.fn.values.items) ≡ passed (tasks_of ts l.tasks.items) (stack_of ts l.values.items)

abbrev pub decreases-tasks : goal.decreases-tasks
decreases-tasks l = measure l.tasks.items
