-- What a callee that is opened takes and gives.
use Rattle.std.proofs.Common.{refl, sym, subst}
use Rattle.std.specs.Prelude.{◌≡◌, ℕ, List, [], ◌∷◌, Option, Some, None, slice_get}
use Rattle.go_type.specs.Tree as ty
use Rattle.go_type.specs.Tree.{Ty, Tys}
use Rattle.go_type.specs.Underlying.{underlying}
use Rattle.go_core.specs.CoreTree.{CoreProgram, CoreFunc, Var}
use Rattle.go_core.specs.TypeOf.{listed_types, one_type, Signature, method_in}
use Rattle.go_core.specs.SoundNode.{CallsFunction, CallsValue, CallsDynamic, IsRowOf}
use Rattle.go_core.specs.Goroutine.{the_function, the_value, the_dynamic}
use Rattle.go_core.specs.TasksTyped.{HasVars, CallTyped, calls_function, calls_value, calls_dynamic}
use Rattle.go_core.proofs.OpenedScope.{captured_had}

-- a fact that holds of one type alone
pub one_of : (Q : Option Ty → Type 0) (ts : List Ty) → (Q None → ⊥) → Q (one_type ts) → (v : Ty) × (ts ≡ v ∷ []) × Q (Some v)
one_of Q [] n h = absurd (n h)
one_of Q (t ∷ []) n h = (t, refl, h)
one_of Q (t ∷ u ∷ ts) n h = absurd (n h)

pub function_call : (p : CoreProgram) (has : List ℕ) (vars : List Var) (func : ℕ) (operands : List Ty) (results : Tys) → HasVars p has vars → (IsRowOf p func → ⊥)
    → CallsFunction (slice_get p.funcs func) vars operands results → CallTyped p has (the_function func) operands (listed_types results)
function_call p has vars func operands results s n h = by_func (slice_get p.funcs func) refl h
  where
    by_func : (o : Option CoreFunc) → slice_get p.funcs func ≡ o → CallsFunction o vars operands results → CallTyped p has (the_function func) operands (listed_types results)
    by_func None e h = absurd h
    by_func (Some f) e h =
        subst (λ os. CallTyped p has (the_function func) os (listed_types results)) (sym h.1)
        (subst (λ rs. CallTyped p has (the_function func) (listed_types f.params) (listed_types rs)) (sym h.2)
        (calls_function func f e (captured_had p has vars f.captured s h.0) n))

pub value_call : (p : CoreProgram) (has : List ℕ) (t : Ty) (operands : List Ty) (results : Tys) → CallsValue (Some (underlying p.names t)) operands results
    → CallTyped p has the_value (t ∷ operands) (listed_types results)
value_call p has t operands results h = by_type (underlying p.names t) refl h
  where
    by_type : (u : Ty) → underlying p.names t ≡ u → CallsValue (Some u) operands results → CallTyped p has the_value (t ∷ operands) (listed_types results)
    by_type (ty.func ps rs v) e h =
        subst (λ os. CallTyped p has the_value (t ∷ os) (listed_types results)) (sym h.0)
        (subst (λ gs. CallTyped p has the_value (t ∷ listed_types ps) (listed_types gs)) (sym h.1) (calls_value t ps rs v e))
    by_type _ e h = absurd h

pub dynamic_call : (p : CoreProgram) (has : List ℕ) (t : Ty) (name package_ : List ℕ) (operands : List Ty) (results : Tys) → CallsDynamic (method_in name package_ (underlying p.names t)) operands results
    → CallTyped p has (the_dynamic name package_) (t ∷ operands) (listed_types results)
dynamic_call p has t name package_ operands results h = by_method (method_in name package_ (underlying p.names t)) refl h
  where
    by_method : (o : Option Signature) → method_in name package_ (underlying p.names t) ≡ o → CallsDynamic o operands results → CallTyped p has (the_dynamic name package_) (t ∷ operands) (listed_types results)
    by_method None e h = absurd h
    by_method (Some m) e h =
        subst (λ os. CallTyped p has (the_dynamic name package_) (t ∷ os) (listed_types results)) (sym h.0)
        (subst (λ gs. CallTyped p has (the_dynamic name package_) (t ∷ listed_types m.params) (listed_types gs)) (sym h.1) (calls_dynamic t name package_ m e))
