-- Own: what of a frame's tasks is no step, and is passed over before the next step.
use Rattle.std.specs.Prelude.{◌≡◌, ℕ, List, [], ◌∷◌, Bool, true, false, Option, Some, None, option_map, drop, slice_get}
use Rattle.std.specs.Borrow.{Bor}
use Rattle.go_type.specs.Tree.{Ty}
use Rattle.go_core.specs.CoreTree as core
use Rattle.go_core.specs.CoreTree.{Stmt}
use Rattle.go_core.specs.Memory.{Value}
use Rattle.go_core.specs.Goroutine as task
use Rattle.go_core.specs.Goroutine.{drop_values, push_value, leave}
use Rattle.go_values.specs.ValuesSeen.{value_of}
use Rattle.go_values.specs.declared.values.scalar.Scalar.{Scalar}
use Rattle.go_state.specs.declared.tasks.task.Task.{Task}
use Rattle.go_state.specs.declared.tasks.task.Task.TheVariants as text
use Rattle.go_state.specs.TasksSeen.{stmts_listed}
use Rattle.go_state.specs.StateSeen.{todo_first, tasks_of, stack_of}
use Rattle.go_state.specs.declared.state.frame.Todo.{Todo}
use Rattle.go_state.specs.declared.state.frame.Todo.TheVariants as held

-- what is left of a frame's tasks, and the values on its stack
pub record Left : Type 0 where
  pub tasks : List task.Task
  pub values : List Value

-- at the next task that is a step
abbrev pub passed : List task.Task → List Value → Left
passed [] vs = record { tasks = []; values = vs }
passed (drop_values n ∷ ts) vs = passed ts (drop n vs)
passed (push_value x ∷ ts) vs = passed ts (x ∷ vs)
passed (leave label ∷ ts) vs = passed ts vs
passed (t ∷ ts) vs = record { tasks = t ∷ ts; values = vs }

abbrev pub is_step : task.Task → Bool
is_step (drop_values n) = false
is_step (push_value x) = false
is_step (leave label) = false
is_step t = true

-- these tasks begin with a step
abbrev pub begins_with_step : List task.Task → Bool
begins_with_step [] = false
begins_with_step (t ∷ ts) = is_step t

-- how many values a statement drops that does nothing else itself; none where it is a step
abbrev pub dropped : Stmt → Option ℕ
dropped (core.sequence ss) = Some 0
dropped (core.perform e n) = Some n
dropped (core.loop label c body post) = Some 0
dropped (core.switch_on label ts cs d) = Some 0
dropped (core.labeled label body) = Some 0
dropped s = None

abbrev pub dropped_at : Option Stmt → Option ℕ
dropped_at None = Some 0
dropped_at (Some s) = dropped s

-- of what isn't opened
abbrev pub dropped_by : List Ty → Task → Option ℕ
dropped_by ts text.Nothing = Some 0
dropped_by ts (text.Do ss n) = dropped_at (slice_get (stmts_listed ts ss.now) n)
dropped_by ts (text.Leave label) = Some 0
dropped_by ts t = None

-- the values after what is no step; none where it is one
abbrev pub values_past : List Ty → Todo → List Value → Option (List Value)
values_past ts (held.Text t) vs = option_map (λ n. drop n vs) (dropped_by ts t)
values_past ts (held.Push x) vs = Some (value_of ts x.now ∷ vs)
values_past ts todo vs = None

-- what was taken from the tasks, if anything, before what remains
abbrev pub taken_first : List Ty → Option Todo → List task.Task → List task.Task
taken_first ts None rest = rest
taken_first ts (Some todo) rest = todo_first ts todo rest

-- it is a step
abbrev pub IsStep : Todo → Type 0
IsStep todo = (ts : List Ty) (rest : List task.Task) → begins_with_step (todo_first ts todo rest) ≡ true

-- these tasks and values come to the step that was taken, if any, and to what remains
abbrev pub ComesTo : List task.Task → List Value → List Ty → Option Todo → List Todo → List (Bor (List Scalar)) → Type 0
ComesTo tasks values ts taken left_tasks left_values =
    passed tasks values ≡ record { tasks = taken_first ts taken (tasks_of ts left_tasks); values = stack_of ts left_values }
