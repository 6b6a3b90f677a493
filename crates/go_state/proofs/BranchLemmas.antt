-- A branch goes past what doesn't have its label.
use Rattle.std.proofs.Common.{◌≡◌, refl, ap, sym, ◌∙◌, ℕ, List, [], ◌∷◌, ◌++◌}
use Rattle.std.specs.Prelude.{Bool, true, false, Option, Some, None, slice_get, if◌then◌else◌}
use Rattle.std.specs.Bool.{OnTrue, OnFalse}
use Rattle.go_type.specs.Tree.{Ty}
use Rattle.go_core.specs.CoreTree as core
use Rattle.go_core.specs.CoreTree.{Expr, CorePlace, Stmt, Tests, Clauses}
use Rattle.go_core.specs.Goroutine as task
use Rattle.go_core.specs.Control.{left, continued}
use Rattle.go_core.specs.CoreView.{expr_view, place_view}
use Rattle.go_state.specs.Last.{applied, place_applied, done}
use Rattle.go_state.specs.TasksSeen.{chosen, done_at, stmts_listed, tests_from, clauses_from}
use Rattle.go_state.specs.declared.tasks.task.Task.TheVariants as text
use Rattle.go_state.specs.declared.tasks.task.ExprTask.TheVariants as expr_task
use Rattle.go_state.specs.declared.tasks.task.PlaceTask.TheVariants as place_task
use Rattle.go_state.specs.declared.tasks.task.LoopTask.TheVariants as loop_task
use Rattle.go_state.specs.declared.tasks.task.SwitchTask.TheVariants as switch_task
use Rattle.go_state.specs.StateSeen.{todo_first, tasks_of}
use Rattle.go_state.proofs.TodoLemmas.{tasks_push}
use Rattle.go_state.specs.Branch.{turns, ends}
use Rattle.go_state.specs.Measure.{opens}
use Rattle.go_state.specs.declared.state.frame.Todo.{Todo}
use Rattle.go_state.specs.declared.state.frame.Todo.TheVariants as held

module _ (label : ℕ) where
  -- ---- past the end of the statement

  left_applied : (e : Expr) (rest : List task.Task) → left label (applied e rest) ≡ left label rest
  left_applied (core.constant t c) rest = refl
  left_applied e rest = refl

  left_place : (p : CorePlace) (rest : List task.Task) → left label (place_applied p rest) ≡ left label rest
  left_place (core.local_ v) rest = refl
  left_place p rest = refl

  left_chosen : (ts : Tests) (cs : Clauses) (d : Option ℕ) (rest : List task.Task) → left label (chosen ts cs d rest) ≡ left label rest
  left_chosen core.no_tests cs d rest = refl
  left_chosen (core.test e n ts) cs d rest = refl

  left_done : (s : Stmt) (rest : List task.Task) → left label (done s rest) ≡ left label rest
  left_done (core.perform e n) rest = refl
  left_done s rest = refl

  left_done_at : (o : Option Stmt) (rest : List task.Task) → left label (done_at o rest) ≡ left label rest
  left_done_at None rest = refl
  left_done_at (Some s) rest = left_done s rest

  pub left_first : (ts : List Ty) (todo : Todo) (rest : List task.Task) → opens todo ≡ false
      → left label (todo_first ts todo rest) ≡ (if ends label todo then rest else left label rest)
  left_first ts (held.Text (text.Expr expr_task.Evaluate e)) rest o = absurd (cc)
  left_first ts (held.Text (text.Expr expr_task.Bounds e)) rest o = absurd (cc)
  left_first ts (held.Text (text.Expr expr_task.Apply e)) rest o = left_applied (expr_view ts e.now) rest
  left_first ts (held.Text (text.Place place_task.Find p)) rest o = absurd (cc)
  left_first ts (held.Text (text.Place place_task.Operands p)) rest o = absurd (cc)
  left_first ts (held.Text (text.Place place_task.Apply p)) rest o = left_place (place_view ts p.now) rest
  left_first ts (held.Text (text.Do ss n)) rest o = left_done_at (slice_get (stmts_listed ts ss.now) n) rest
  left_first ts (held.Text (text.Loop loop_task.Begin l)) rest o = absurd (cc)
  left_first ts (held.Text (text.Loop loop_task.Turn l)) rest o = refl
  left_first ts (held.Text (text.Loop loop_task.Again l)) rest o = refl
  left_first ts (held.Text (text.Switch switch_task.Test s)) rest o = absurd (cc)
  left_first ts (held.Text (text.Switch switch_task.Choose s)) rest o = left_chosen (tests_from ts s.tests.now s.from) (clauses_from ts s.clauses.now 0) s.default rest
  left_first ts (held.Text text.Nothing) rest o = refl
  left_first ts (held.Text (text.Leave l)) rest o = refl
  left_first ts (held.Text t) rest o = absurd (cc)
  left_first ts todo rest o = refl

  -- ---- to the next turn of the loop

  continued_applied : (e : Expr) (rest : List task.Task) → continued label (applied e rest) ≡ continued label rest
  continued_applied (core.constant t c) rest = refl
  continued_applied e rest = refl

  continued_place : (p : CorePlace) (rest : List task.Task) → continued label (place_applied p rest) ≡ continued label rest
  continued_place (core.local_ v) rest = refl
  continued_place p rest = refl

  continued_chosen : (ts : Tests) (cs : Clauses) (d : Option ℕ) (rest : List task.Task) → continued label (chosen ts cs d rest) ≡ continued label rest
  continued_chosen core.no_tests cs d rest = refl
  continued_chosen (core.test e n ts) cs d rest = refl

  continued_done : (s : Stmt) (rest : List task.Task) → continued label (done s rest) ≡ continued label rest
  continued_done (core.perform e n) rest = refl
  continued_done s rest = refl

  continued_done_at : (o : Option Stmt) (rest : List task.Task) → continued label (done_at o rest) ≡ continued label rest
  continued_done_at None rest = refl
  continued_done_at (Some s) rest = continued_done s rest

  pub continued_first : (ts : List Ty) (todo : Todo) (rest : List task.Task) → opens todo ≡ false
      → continued label (todo_first ts todo rest) ≡ (if turns label todo then todo_first ts todo rest else continued label rest)
  continued_first ts (held.Text (text.Expr expr_task.Evaluate e)) rest o = absurd (cc)
  continued_first ts (held.Text (text.Expr expr_task.Bounds e)) rest o = absurd (cc)
  continued_first ts (held.Text (text.Expr expr_task.Apply e)) rest o = continued_applied (expr_view ts e.now) rest
  continued_first ts (held.Text (text.Place place_task.Find p)) rest o = absurd (cc)
  continued_first ts (held.Text (text.Place place_task.Operands p)) rest o = absurd (cc)
  continued_first ts (held.Text (text.Place place_task.Apply p)) rest o = continued_place (place_view ts p.now) rest
  continued_first ts (held.Text (text.Do ss n)) rest o = continued_done_at (slice_get (stmts_listed ts ss.now) n) rest
  continued_first ts (held.Text (text.Loop loop_task.Begin l)) rest o = absurd (cc)
  continued_first ts (held.Text (text.Loop loop_task.Turn l)) rest o = refl
  continued_first ts (held.Text (text.Loop loop_task.Again l)) rest o = refl
  continued_first ts (held.Text (text.Switch switch_task.Test s)) rest o = absurd (cc)
  continued_first ts (held.Text (text.Switch switch_task.Choose s)) rest o = continued_chosen (tests_from ts s.tests.now s.from) (clauses_from ts s.clauses.now 0) s.default rest
  continued_first ts (held.Text text.Nothing) rest o = refl
  continued_first ts (held.Text (text.Leave l)) rest o = refl
  continued_first ts (held.Text t) rest o = absurd (cc)
  continued_first ts todo rest o = refl

  -- ---- by what the program has found

  pub left_ends : (b : Bool) (todo : Todo) (xs ys : List Todo) → b ≡ ends label todo → opens todo ≡ false → ys ≡ xs
      → OnTrue b ((ts : List Ty) → left label (todo_first ts todo (tasks_of ts xs)) ≡ tasks_of ts ys)
  left_ends true todo xs ys e o s = λ ts.
      left_first ts todo (tasks_of ts xs) o
      ∙ ap (λ (c : Bool). if c then tasks_of ts xs else left label (tasks_of ts xs)) (sym e)
      ∙ ap (tasks_of ts) (sym s)
  left_ends false todo xs ys e o s = tt

  pub left_goes_on : (b : Bool) (todo : Todo) (xs ys : List Todo) → b ≡ ends label todo → opens todo ≡ false → ys ≡ xs
      → OnFalse b ((ts : List Ty) → left label (todo_first ts todo (tasks_of ts xs)) ≡ left label (tasks_of ts ys))
  left_goes_on true todo xs ys e o s = tt
  left_goes_on false todo xs ys e o s = λ ts.
      left_first ts todo (tasks_of ts xs) o
      ∙ ap (λ (c : Bool). if c then tasks_of ts xs else left label (tasks_of ts xs)) (sym e)
      ∙ ap (λ (zs : List Todo). left label (tasks_of ts zs)) (sym s)

  pub continued_ends : (todo : Todo) (xs ys zs : List Todo) → turns label todo ≡ true → opens todo ≡ false → ys ≡ xs → zs ≡ ys ++ todo ∷ []
      → (ts : List Ty) → continued label (todo_first ts todo (tasks_of ts xs)) ≡ tasks_of ts zs
  continued_ends todo xs ys zs e o s w ts =
      continued_first ts todo (tasks_of ts xs) o
      ∙ ap (λ (c : Bool). if c then todo_first ts todo (tasks_of ts xs) else continued label (tasks_of ts xs)) e
      ∙ ap (λ (us : List Todo). todo_first ts todo (tasks_of ts us)) (sym s)
      ∙ sym (tasks_push ts ys todo)
      ∙ ap (tasks_of ts) (sym w)

  pub continued_goes_on : (todo : Todo) (xs ys : List Todo) → turns label todo ≡ false → opens todo ≡ false → ys ≡ xs
      → (ts : List Ty) → continued label (todo_first ts todo (tasks_of ts xs)) ≡ continued label (tasks_of ts ys)
  continued_goes_on todo xs ys e o s ts =
      continued_first ts todo (tasks_of ts xs) o
      ∙ ap (λ (c : Bool). if c then todo_first ts todo (tasks_of ts xs) else continued label (tasks_of ts xs)) e
      ∙ ap (λ (us : List Todo). continued label (tasks_of ts us)) (sym s)
