-- What is no step is passed over.
use Rattle.std.proofs.Common.{◌≡◌, refl, ap, sym, ◌∙◌, ℕ, List, [], ◌∷◌, drop}
use Rattle.std.specs.Prelude.{true, false, Option, Some, None, option_map, unwrap_or}
use Rattle.go_type.specs.Tree.{Ty}
use Rattle.go_core.specs.Memory.{Value}
use Rattle.go_core.specs.CoreTree as core
use Rattle.go_core.specs.CoreTree.{Expr, CorePlace, Stmt, Tests, Clauses}
use Rattle.go_core.specs.Goroutine as task
use Rattle.go_core.specs.Goroutine.{operate, drop_values, push_value, leave}
use Rattle.go_core.specs.CoreView.{expr_view, place_view}
use Rattle.go_state.specs.Last.{applied, place_applied, done}
use Rattle.go_state.specs.TasksSeen.{chosen, done_at, stmts_listed, tests_from, clauses_from}
use Rattle.std.specs.Prelude.{slice_get}
use Rattle.go_state.specs.declared.tasks.task.Task.TheVariants as text
use Rattle.go_state.specs.declared.tasks.task.ExprTask.TheVariants as expr_task
use Rattle.go_state.specs.declared.tasks.task.PlaceTask.TheVariants as place_task
use Rattle.go_state.specs.declared.tasks.task.LoopTask.TheVariants as loop_task
use Rattle.go_state.specs.declared.tasks.task.SwitchTask.TheVariants as switch_task
use Rattle.std.specs.Borrow.{Bor}
use Rattle.go_values.specs.declared.values.scalar.Scalar.{Scalar}
use Rattle.go_state.specs.StateSeen.{todo_first, tasks_of, stack_of}
use Rattle.go_state.specs.Passed.{Left, IsStep, ComesTo, passed, begins_with_step, dropped, dropped_at, values_past}
use Rattle.go_state.specs.Measure.{opens}
use Rattle.go_state.specs.declared.state.frame.Todo.{Todo}
use Rattle.go_state.specs.declared.state.frame.Todo.TheVariants as held

some_same : {A : Type 0} (a b : A) → Some a ≡ Some b → a ≡ b
some_same a b h = ap (λ o. unwrap_or o a) h

-- at a step nothing is passed over
pub passed_step : (ts : List task.Task) (vs : List Value) → begins_with_step ts ≡ true → passed ts vs ≡ record { tasks = ts; values = vs }
passed_step [] vs h = absurd (cc)
passed_step (drop_values n ∷ ts) vs h = absurd (cc)
passed_step (push_value x ∷ ts) vs h = absurd (cc)
passed_step (leave l ∷ ts) vs h = absurd (cc)
passed_step (t ∷ ts) vs h = refl

applied_step : (e : Expr) (rest : List task.Task) → begins_with_step (applied e rest) ≡ true
applied_step (core.constant t c) rest = refl
applied_step e rest = refl

place_applied_step : (p : CorePlace) (rest : List task.Task) → begins_with_step (place_applied p rest) ≡ true
place_applied_step (core.local_ v) rest = refl
place_applied_step p rest = refl

chosen_step : (ts : Tests) (cs : Clauses) (d : Option ℕ) (rest : List task.Task) → begins_with_step (chosen ts cs d rest) ≡ true
chosen_step core.no_tests cs d rest = refl
chosen_step (core.test e n ts) cs d rest = refl

done_step : (s : Stmt) (rest : List task.Task) → dropped s ≡ None → begins_with_step (done s rest) ≡ true
done_step (core.sequence ss) rest h = absurd (cc)
done_step (core.perform e n) rest h = absurd (cc)
done_step (core.loop label c body post) rest h = absurd (cc)
done_step (core.switch_on label ts cs d) rest h = absurd (cc)
done_step (core.labeled label body) rest h = absurd (cc)
done_step s rest h = refl

done_at_step : (o : Option Stmt) (rest : List task.Task) → dropped_at o ≡ None → begins_with_step (done_at o rest) ≡ true
done_at_step None rest h = absurd (cc)
done_at_step (Some s) rest h = done_step s rest h

done_past : (s : Stmt) (rest : List task.Task) (vs us : List Value) → option_map (λ n. drop n vs) (dropped s) ≡ Some us → passed (done s rest) vs ≡ passed rest us
done_past (core.sequence ss) rest vs us h = ap (passed rest) (some_same vs us h)
done_past (core.perform e n) rest vs us h = ap (passed rest) (some_same (drop n vs) us h)
done_past (core.loop label c body post) rest vs us h = ap (passed rest) (some_same vs us h)
done_past (core.switch_on label ts cs d) rest vs us h = ap (passed rest) (some_same vs us h)
done_past (core.labeled label body) rest vs us h = ap (passed rest) (some_same vs us h)
done_past s rest vs us h = absurd (cc)

done_at_past : (o : Option Stmt) (rest : List task.Task) (vs us : List Value) → option_map (λ n. drop n vs) (dropped_at o) ≡ Some us → passed (done_at o rest) vs ≡ passed rest us
done_at_past None rest vs us h = ap (passed rest) (some_same vs us h)
done_at_past (Some s) rest vs us h = done_past s rest vs us h

module _ (ts : List Ty) where
  -- a step is one that leaves nothing to be done to the values
  pub todo_step : (todo : Todo) (rest : List task.Task) (vs : List Value) → opens todo ≡ false → values_past ts todo vs ≡ None → begins_with_step (todo_first ts todo rest) ≡ true
  todo_step (held.Text text.Nothing) rest vs o h = absurd (cc)
  todo_step (held.Text (text.Expr expr_task.Evaluate e)) rest vs o h = absurd (cc)
  todo_step (held.Text (text.Expr expr_task.Bounds e)) rest vs o h = absurd (cc)
  todo_step (held.Text (text.Expr expr_task.Apply e)) rest vs o h = applied_step (expr_view ts e.now) rest
  todo_step (held.Text (text.Place place_task.Find p)) rest vs o h = absurd (cc)
  todo_step (held.Text (text.Place place_task.Operands p)) rest vs o h = absurd (cc)
  todo_step (held.Text (text.Place place_task.Apply p)) rest vs o h = place_applied_step (place_view ts p.now) rest
  todo_step (held.Text (text.Do ss n)) rest vs o h = done_at_step (slice_get (stmts_listed ts ss.now) n) rest (unmapped (λ k. drop k vs) (dropped_at (slice_get (stmts_listed ts ss.now) n)) h)
    where
      unmapped : {A B : Type 0} (f : A → B) (x : Option A) → option_map f x ≡ None → x ≡ None
      unmapped f None e = refl
      unmapped f (Some a) e = absurd (cc)
  todo_step (held.Text (text.Loop loop_task.Begin l)) rest vs o h = absurd (cc)
  todo_step (held.Text (text.Loop loop_task.Turn l)) rest vs o h = refl
  todo_step (held.Text (text.Loop loop_task.Again l)) rest vs o h = refl
  todo_step (held.Text (text.Switch switch_task.Test s)) rest vs o h = absurd (cc)
  todo_step (held.Text (text.Switch switch_task.Choose s)) rest vs o h = chosen_step (tests_from ts s.tests.now s.from) (clauses_from ts s.clauses.now 0) s.default rest
  todo_step (held.Text (text.Leave l)) rest vs o h = absurd (cc)
  todo_step (held.Text t) rest vs o h = absurd (cc)
  todo_step (held.Push x) rest vs o h = absurd (cc)
  todo_step t rest vs o h = refl

  -- what is no step is passed over
  pub todo_past : (todo : Todo) (rest : List task.Task) (vs us : List Value) → opens todo ≡ false → values_past ts todo vs ≡ Some us → passed (todo_first ts todo rest) vs ≡ passed rest us
  todo_past (held.Text text.Nothing) rest vs us o h = ap (passed rest) (some_same vs us h)
  todo_past (held.Text (text.Do ss n)) rest vs us o h = done_at_past (slice_get (stmts_listed ts ss.now) n) rest vs us h
  todo_past (held.Text (text.Leave l)) rest vs us o h = ap (passed rest) (some_same vs us h)
  todo_past (held.Text t) rest vs us o h = absurd (cc)
  todo_past (held.Push x) rest vs us o h = ap (passed rest) (some_same _ us h)
  todo_past t rest vs us o h = absurd (cc)

  -- ---- by what the program has found

  -- the step that was taken, and what remains
  pub comes : (x : Todo) (ys zs : List Todo) (vs us : List (Bor (List Scalar))) → zs ≡ ys → us ≡ vs → IsStep x
      → ComesTo (todo_first ts x (tasks_of ts ys)) (stack_of ts vs) ts (Some x) zs us
  comes x ys zs vs us e f s =
      passed_step (todo_first ts x (tasks_of ts ys)) (stack_of ts vs) (s ts (tasks_of ts ys))
      ∙ ap (λ (k : List Todo). left_as x k vs) (sym e)
      ∙ ap (λ (k : List (Bor (List Scalar))). left_as x zs k) (sym f)
    where
      left_as : Todo → List Todo → List (Bor (List Scalar)) → Left
      left_as x k w = record { tasks = todo_first ts x (tasks_of ts k); values = stack_of ts w }

  -- nothing is left
  pub comes_none : (xs ys : List Todo) (vs : List (Bor (List Scalar))) → xs ≡ [] → ys ≡ [] → ComesTo (tasks_of ts xs) (stack_of ts vs) ts None ys vs
  comes_none xs ys vs e f =
      ap (λ (k : List Todo). passed (tasks_of ts k) (stack_of ts vs)) e
      ∙ ap (λ (k : List Todo). nothing_left k) (sym f)
    where
      nothing_left : List Todo → Left
      nothing_left k = record { tasks = tasks_of ts k; values = stack_of ts vs }
