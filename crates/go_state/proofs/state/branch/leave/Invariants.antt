use Rattle.std.proofs.Common.{◌≡◌, List}
use Rattle.go_type.specs.Tree.{Ty}
use Rattle.go_core.specs.Control.{left}
use Rattle.go_state.specs.StateSeen.{tasks_of}
use Rattle.go_state.specs.Measure.{measure}
use Rattle.go_state.proofs.state.branch.leave.Given as goal

abbrev pub invariant-tasks : goal.invariant-tasks
invariant-tasks l = (ts : List Ty) → left l.label.0 (tasks_of ts l.fn.tasks.items) ≡ left l.label.0 (tasks_of ts l.tasks.items)

abbrev pub decreases-tasks : goal.decreases-tasks
decreases-tasks l = measure l.tasks.items
