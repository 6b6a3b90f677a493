-- What a clause does once its communication is done comes before what remains.
use Rattle.std.proofs.Common.{◌≡◌, refl, sym, ap, ◌∙◌, List, [], ◌∷◌, ◌++◌, arith}
use Rattle.std.specs.Prelude.{ℕ, zero, suc, length, Bool}
use Rattle.go_type.specs.Tree.{Ty}
use Rattle.go_core.specs.CoreTree.{Var, Stmts}
use Rattle.go_core.specs.CoreView.{stmts_view}
use Rattle.go_core.specs.Control.{with_first}
use Rattle.go_core.specs.Communicate.{received}
use Rattle.go_core.specs.Goroutine.{Task, Frame, bind_vars}
use Rattle.go_core.specs.Memory.{Value, truth}
use Rattle.go_core.specs.declared.node.Var as held
use Rattle.go_core.specs.Opened.{all_opened}
use Rattle.go_core.specs.declared.statement.CoreStmts.{CoreStmts}
use Rattle.go_core.proofs.CommunicationOpened.{opened_first}
use Rattle.go_state.specs.TasksSeen.{stmts_from}
use Rattle.go_state.proofs.ListsLemmas.{stmts_whole}
use Rattle.go_state.specs.StateSeen.{bound_first, vars_of}

bound_append : (vs : List Var) (xs ys : List Task) → bound_first vs xs ++ ys ≡ bound_first vs (xs ++ ys)
bound_append [] xs ys = refl
bound_append (v ∷ vs) xs ys = refl

pub clause_first : (ts : List Ty) (vs : List Var) (body : CoreStmts) (f : Frame)
    → with_first (bound_first vs) (with_first (λ rest. all_opened (stmts_from ts body 0) rest) f)
    ≡ with_first (λ rest. bound_first vs (all_opened (stmts_view ts body) []) ++ rest) f
clause_first ts vs body f =
    let with_tasks : List Task → Frame = λ xs. record f { tasks = xs } in
    ap (λ (ss : Stmts). with_tasks (bound_first vs (all_opened ss f.tasks))) (sym (stmts_whole ts body))
    ∙ ap (λ (xs : List Task). with_tasks (bound_first vs xs)) (sym (opened_first f.tasks (stmts_view ts body)))
    ∙ ap with_tasks (sym (bound_append vs (all_opened (stmts_view ts body) []) f.tasks))

-- variables that there are none of, and those that there are
pub bound_none : (ts : List Ty) (vs : List held.Var) (rest : List Task) → length vs ≡ 0 → bound_first (vars_of ts vs) rest ≡ rest
bound_none ts [] rest h = refl
bound_none ts (v ∷ vs) rest h = absurd (omega arith)

pub bound_some : (ts : List Ty) (vs : List held.Var) (rest : List Task) → (length vs ≡ 0 → ⊥) → bound_first (vars_of ts vs) rest ≡ bind_vars (vars_of ts vs) ∷ rest
bound_some ts [] rest h = absurd (h refl)
bound_some ts (v ∷ vs) rest h = refl

pub received_both : (n : ℕ) (v : Value) (ok : Bool) → (n ≡ 0 → ⊥) → (n ≡ 1 → ⊥) → received n v ok ≡ v ∷ (truth ok ∷ []) ∷ []
received_both zero v ok h k = absurd (h refl)
received_both (suc zero) v ok h k = absurd (k refl)
received_both (suc (suc n)) v ok h k = refl
