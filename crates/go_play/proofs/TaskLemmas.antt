-- A task that is a step is the next one.
use Rattle.std.proofs.Common.{◌≡◌, refl, ap, ◌∙◌, sym, ℕ, List, [], ◌∷◌}
use Rattle.std.specs.Prelude.{true, false, Option}
use Rattle.go_type.specs.Tree.{Ty}
use Rattle.go_core.specs.CoreTree.{CoreProgram}
use Rattle.go_core.specs.Goroutine.{Task, Frame, State, Move, drop_values, push_value, leave}
use Rattle.go_core.specs.GoStep.{task_step, tasks_step}
use Rattle.go_state.specs.Passed.{is_step, begins_with_step}
use Rattle.go_entries.specs.DoingSeen.{doing_of}
use Rattle.go_entries.specs.declared.doing.task.Doing.{Doing}
use Rattle.go_entries.specs.declared.doing.task.Doing.TheVariants as doing

module _ (p : CoreProgram) (choices : List ℕ) (move : Move) (g : ℕ) where
  -- the frame without the task
  pub step_next : (t : Task) (rest : List Task) (f : Frame) (below : List Frame) (s : State) → is_step t ≡ true
      → tasks_step p choices move g (t ∷ rest) f below s ≡ task_step p choices move g t (record f { tasks = rest }) below s
  step_next (drop_values n) rest f below s h = absurd (cc)
  step_next (push_value x) rest f below s h = absurd (cc)
  step_next (leave l) rest f below s h = absurd (cc)
  step_next t rest f below s h = refl

-- what is done is a step
pub doing_steps : (ts : List Ty) (d : Doing) → is_step (doing_of ts d) ≡ true
doing_steps ts (doing.Operate o n) = refl
doing_steps ts d = refl
