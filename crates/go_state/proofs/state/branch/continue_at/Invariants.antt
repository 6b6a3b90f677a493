use Rattle.std.proofs.Common.{◌≡◌, List}
use Rattle.go_type.specs.Tree.{Ty}
use Rattle.go_core.specs.Control.{continued}
use Rattle.go_state.specs.StateSeen.{tasks_of}
use Rattle.go_state.specs.Measure.{measure}
use Rattle.go_state.proofs.state.branch.continue_at.Given as goal

abbrev pub invariant-tasks : goal.invariant-tasks
invariant-tasks l = (ts : List Ty) → continued l.label.0 (tasks_of ts l.fn.tasks.items) ≡ continued l.label.0 (tasks_of ts l.tasks.items)

abbrev pub decreases-tasks : goal.decreases-tasks
decreases-tasks l = measure l.tasks.items
