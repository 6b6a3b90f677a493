-- Scopes and labels round what is opened.
use Rattle.std.proofs.Common.{inl, inr, refl, sym, subst, arith}
use Rattle.std.specs.Prelude.{◌≡◌, ℕ, zero, suc, List, [], ◌∷◌, Contains, Option, Some, None}
use Rattle.std.proofs.lemmas.List.{append-nil}
use Rattle.go_type.specs.Tree as ty
use Rattle.go_type.specs.Tree.{Ty, Tys}
use Rattle.go_core.specs.CoreTree.{CoreProgram, CoreFunc, Var}
use Rattle.go_core.specs.SoundNode.{Around, with_var, with_all, AreDeclarable, AreInScope, HasFuncType}
use Rattle.go_core.specs.Typed.{World, Extends}
use Rattle.go_core.specs.TasksTyped.{AreHad, with_ids, IsVar, AreVars, HasVars, ScopeTyped}
use Rattle.go_core.proofs.TasksGrow.{Within, has_vars}
use Rattle.go_core.proofs.OpenedLemmas.{scope_var}

pub same_world : (w : World) → Extends w w
same_world w = record { more_cells = []; more_maps = []; more_channels = []; cells_stay = sym (append-nil w.cells); maps_stay = sym (append-nil w.maps); channels_stay = sym (append-nil w.channels) }

pub within_ids : (vs : List Var) (has : List ℕ) → Within has (with_ids vs has)
within_ids [] has v h = h
within_ids (x ∷ xs) has v h = within_ids xs (x.id ∷ has) v (inr h)

pub contained : (p : CoreProgram) (xs : List Var) (v : Var) → AreVars p xs → Contains xs v → IsVar p v
contained p [] v h c = let lt = c.1 in absurd (omega arith)
contained p (x ∷ xs) v h (zero, lt, c) = subst (λ u. IsVar p u) c h.0
contained p (x ∷ xs) v h (suc k, lt, c) = contained p xs v h.1 (k, omega arith, c)

pub declarable_vars : (p : CoreProgram) (xs vs : List Var) → AreVars p xs → AreDeclarable vs xs → AreVars p vs
declarable_vars p xs [] h d = tt
declarable_vars p xs (v ∷ vs) h d = (contained p xs v h d.0, declarable_vars p xs vs h d.1)

pub scope_with : (p : CoreProgram) (has : List ℕ) (a : Around) (v : Var) → ScopeTyped p has a → IsVar p v → ScopeTyped p (v.id ∷ has) (with_var v a)
scope_with p has a v s h = record { in_scope = ((inl refl, h), has_vars p has (v.id ∷ has) a.vars (λ u k. inr k) s.in_scope); declarable = s.declarable }

pub scope_all : (p : CoreProgram) (vs : List Var) (has : List ℕ) (a : Around) → ScopeTyped p has a → AreVars p vs → ScopeTyped p (with_ids vs has) (with_all vs a)
scope_all p [] has a s h = s
scope_all p (v ∷ vs) has a s h = scope_all p vs (v.id ∷ has) (with_var v a) (scope_with p has a v s h.0) h.1

pub captured_had : (p : CoreProgram) (has : List ℕ) (vars : List Var) (vs : List ℕ) → HasVars p has vars → AreInScope vs vars → AreHad has vs
captured_had p has vars [] s h = tt
captured_had p has vars (v ∷ vs) s h = ((scope_var p has vars v h.0.0 s h.0.1).0, captured_had p has vars vs s h.1)

pub func_value : (o : Option CoreFunc) (vars : List Var) (t : Ty) → HasFuncType o vars t → (f : CoreFunc) × (o ≡ Some f) × AreInScope f.captured vars × (t ≡ ty.func f.params f.results f.variadic)
func_value None vars t h = absurd h
func_value (Some f) vars t h = (f, refl, h.0, h.1)
