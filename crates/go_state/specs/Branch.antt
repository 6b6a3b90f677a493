-- Go specification (as of Go 1.17), "Break statements", "Continue statements": where a branch leads.
use Rattle.std.specs.Prelude.{ℕ, Bool, false, ◌==◌}
use Rattle.go_state.specs.declared.tasks.task.Task.TheVariants as text
use Rattle.go_state.specs.declared.tasks.task.LoopTask.TheVariants as loop_task
use Rattle.go_state.specs.declared.state.frame.Todo.{Todo}
use Rattle.go_state.specs.declared.state.frame.Todo.TheVariants as held

-- the next turn of the loop with this label
abbrev pub turns : ℕ → Todo → Bool
turns label (held.Text (text.Loop loop_task.Again l)) = l.label.0 == label
turns label (held.NextRange r c) = r.label.0 == label
turns label todo = false

-- the end of the statement with this label, or the next turn of that loop
abbrev pub ends : ℕ → Todo → Bool
ends label (held.Text (text.Leave l)) = l.0 == label
ends label todo = turns label todo
