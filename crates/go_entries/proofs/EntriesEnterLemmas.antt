-- New frames.
use Rattle.std.proofs.Common.{◌≡◌, ◌∙◌, refl, sym, ap, subst, ℕ, suc, List, [], ◌∷◌, ◌++◌, length, take}
use Rattle.std.specs.Prelude.{Option, Some, None, Result, Ok, Err, IsErrAnd}
use Rattle.go_type.specs.Tree.{Ty}
use Rattle.go_type.specs.Named.{NamedTy}
use Rattle.go_type.specs.Levels.{trees_of}
use Rattle.go_type.specs.declared.types.TypeId.{TypeId}
use Rattle.go_core.specs.CoreTree as tree
use Rattle.go_core.specs.CoreTree.{CoreFunc}
use Rattle.go_core.specs.Memory as core
use Rattle.go_core.specs.Opened.{type_count, all_opened}
use Rattle.go_core.specs.Goroutine as defined
use Rattle.go_core.specs.Calls as calls
use Rattle.go_core.specs.Calls.{Bindings, with_vars, with_zeros, with_results, entered_with, captured_places, result_vars}
use Rattle.go_values.specs.declared.values.memory.Memory.{Memory}
use Rattle.go_values.specs.declared.operators.did.Stop.{Stop}
use Rattle.go_values.specs.declared.operators.did.Stop.TheVariants as stop
use Rattle.go_state.specs.declared.state.frame.Place.{Place}
use Rattle.go_state.specs.StateSeen.{tasks_of}
use Rattle.go_state.specs.declared.state.frame.Todo.{Todo}
use Rattle.go_state.specs.declared.state.frame.Todo.TheVariants as held
use Rattle.go_state.specs.declared.tasks.task.Task.TheVariants as text
use Rattle.go_state.specs.TasksSeen.{stmts_from}
use Rattle.go_state.proofs.ListsLemmas.{stmts_whole}
use Rattle.go_state.proofs.TodoLemmas.{tasks_popped}
use Rattle.go_core.specs.CoreView.{stmts_view}
use Rattle.go_core.specs.declared.statement.CoreStmts.{CoreStmts}
use Rattle.std.specs.Borrow.{Bor}
use Rattle.go_state.specs.Bound.{Binds}
use Rattle.go_entries.specs.EntriesSeen.{IsEntered}
use Rattle.go_entries.specs.declared.entries.enter.Entered.{Entered}

pub counted : (ts : List Ty) (is : List TypeId) → type_count (trees_of ts is) ≡ length is
counted ts [] = refl
counted ts (i ∷ is) = ap (λ (n : ℕ). suc n) (counted ts is)

-- what `?` hands on where variables are not bound
pub not_entered : (ts : List Ty) (r : Result Entered Stop) (m n : Memory) (e : Stop) (at : List Place) (b : Option Bindings) (o : Option calls.Entered)
    → IsErrAnd r (λ y. y ≡ e) → Binds ts (Err e) at n b → (b ≡ None → o ≡ None) → IsEntered ts r m o
not_entered ts (Ok x) m n e at b o i h k = absurd i
not_entered ts (Err stop.NoMemory) m n e at b o i h k = tt
not_entered ts (Err stop.NoStep) m n e at b o i h k = k (subst (λ (z : Stop). Binds ts (Err z) at n b) (sym i) h)
not_entered ts (Err (stop.Panics q u)) m n e at b o i h k = subst (λ (z : Stop). Binds ts (Err z) at n b) (sym i) h

abbrev pub started : CoreFunc → List ℕ → calls.Adapted → Bindings
started f bases a = record { places = captured_places f.captured bases; memory = a.memory; units = 0 }

-- the frame, by its parts
abbrev pub framed_with : List core.Value → List defined.Invocation → ℕ → List defined.Task → List tree.Var → defined.Purpose → Bindings → calls.Entered
framed_with values deferred func tasks results purpose b = record {
  frame = record { func = Some func; tasks = tasks; values = values; places = b.places; deferred_calls = deferred; results = results; mode = defined.normal; purpose = purpose };
  memory = b.memory;
  units = b.units;
}

abbrev pub framed_by : ℕ → List defined.Task → List tree.Var → defined.Purpose → Bindings → calls.Entered
framed_by func tasks results purpose b = framed_with [] [] func tasks results purpose b

-- parameters and results, by what has been bound
pub entered_by : (ns : List NamedTy) (func : ℕ) (f : CoreFunc) (bases : List ℕ) (purpose : defined.Purpose) (a : calls.Adapted) (params results : List tree.Var) (tasks : List defined.Task) (s b c : Bindings)
    → s ≡ started f bases a → params ≡ take (length a.operands) f.vars → results ≡ result_vars f (length a.operands) → tasks ≡ a.first ++ all_opened f.body []
    → with_vars ns params a.operands s ≡ Some b → c ≡ with_zeros ns results b
    → entered_with ns func f bases purpose a ≡ Some (framed_by func tasks results purpose c)
entered_by ns func f bases purpose a params results tasks s b c e i j t h z =
    ap (λ (k : Bindings). with_results ns func f purpose a (with_vars ns (take (length a.operands) f.vars) a.operands k)) (sym e)
    ∙ ap (λ (us : List tree.Var). with_results ns func f purpose a (with_vars ns us a.operands s)) (sym i)
    ∙ ap (with_results ns func f purpose a) h
    ∙ ap (λ (us : List tree.Var). Some (framed_by func (a.first ++ all_opened f.body []) us purpose (with_zeros ns us b))) (sym j)
    ∙ ap (λ (k : Bindings). Some (framed_by func (a.first ++ all_opened f.body []) results purpose k)) (sym z)
    ∙ ap (λ (us : List defined.Task). Some (framed_by func us results purpose c)) (sym t)

pub entered_none : (ns : List NamedTy) (func : ℕ) (f : CoreFunc) (bases : List ℕ) (purpose : defined.Purpose) (a : calls.Adapted) (params : List tree.Var) (s : Bindings)
    → s ≡ started f bases a → params ≡ take (length a.operands) f.vars
    → with_vars ns params a.operands s ≡ None → entered_with ns func f bases purpose a ≡ None
entered_none ns func f bases purpose a params s e i h =
    ap (λ (k : Bindings). with_results ns func f purpose a (with_vars ns (take (length a.operands) f.vars) a.operands k)) (sym e)
    ∙ ap (λ (us : List tree.Var). with_results ns func f purpose a (with_vars ns us a.operands s)) (sym i)
    ∙ ap (with_results ns func f purpose a) h

-- the body is what is to be done
pub body_pushed : (ts : List Ty) (body : Bor CoreStmts) (xs ys : List Todo) → ys ≡ xs ++ held.Text (text.Run body 0) ∷ [] → xs ≡ []
    → tasks_of ts ys ≡ all_opened (stmts_view ts body.now) []
body_pushed ts body xs ys e f =
    tasks_popped (λ (z : List defined.Task). z) ts ys xs (held.Text (text.Run body 0)) e
    ∙ ap (λ (zs : List Todo). all_opened (stmts_from ts body.now 0) (tasks_of ts zs)) f
    ∙ sym (ap (λ (ss : tree.Stmts). all_opened ss []) (stmts_whole ts body.now))

abbrev pub bound_of : List defined.Place → core.Memory → ℕ → Bindings
bound_of places m units = record { places = places; memory = m; units = units }
