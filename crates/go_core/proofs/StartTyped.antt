-- The beginning of a Sound program's run is well formed.
use Rattle.std.proofs.Common.{◌⊎◌, inl, inr, refl, sym, ap, ◌∙◌, subst, arith}
use Rattle.std.specs.Prelude.{◌≡◌, ◌<◌, ℕ, zero, suc, ◌+◌, ◌==◌, List, [], ◌∷◌, ◌++◌, Bool, true, false, ◌&&◌, bytes_eq, if◌then◌else◌, Option, Some, None, slice_get, length, flat_map, AllPairs, slice_index_or}
use Rattle.std.specs.List.{AllByRecursion}
use Rattle.std.proofs.lemmas.List.Elements.{recursion_from_All}
use Rattle.std.proofs.lemmas.Bool.{eqb-true, eq-eqb}
use Rattle.go_type.specs.Tree.{Ty, no_tys}
use Rattle.go_core.specs.Layout.{shape_of}
use Rattle.go_core.specs.Memory.{zeros}
use Rattle.go_core.specs.CoreTree.{Bound, no_bound, bound, Var, CoreFunc, PackageVar, InitStep, initialise, call_init, CoreProgram}
use Rattle.go_core.specs.TypeOf.{listed_types, global_type, var_type}
use Rattle.go_core.specs.SoundProgram.{Sound, IsPlainFunc, SoundVariable, SoundInitialiser, type_in, types_at, all_vars, func_vars, initialiser_vars, DifferInId}
use Rattle.go_core.specs.StepMemory.{global_base, global_zeros}
use Rattle.go_core.specs.Goroutine.{Task, set_globals, call_with, the_function, finish}
use Rattle.go_core.specs.Run.{set_with, initialised, initialised_at, init_tasks}
use Rattle.go_core.specs.Leaves.{Leaf, leaves_of, Spans}
use Rattle.go_core.specs.Typed.{World, Lists}
use Rattle.go_core.specs.Applies.{values_of_types, pushed_slots}
use Rattle.go_core.specs.TasksTyped.{AreHad, IsVar, AreVars, ScopeTyped, GlobalsTyped, CallTyped, calls_function, TasksTyped, globals_typed, call_typed, finish_typed}
use Rattle.go_core.specs.TypingLaws.{OrderFits, StartsWellFormed}
use Rattle.go_core.proofs.LeavesLemmas.{size_leaves, zeros_of, lists_append, spans_first}
use Rattle.go_core.proofs.MemoryLemmas.{past, whole}
use Rattle.go_core.proofs.OpenedExprs.{ev}

some_inj : {A : Type 0} (x y : A) → Some x ≡ Some y → x ≡ y
some_inj x y e = cc

-- ---- declared variables

abbrev pub Among : List Var → Var → Type 0
Among [] v = ⊥
Among (x ∷ xs) v = (x ≡ v) ⊎ Among xs v

index_of : (xs : List Var) (v : Var) → Among xs v → (j : ℕ) × (j < length xs) × ((d : Var) → slice_index_or xs j d ≡ v)
index_of [] v h = absurd h
index_of (x ∷ xs) v (inl e) = (zero, omega arith, λ d. e)
index_of (x ∷ xs) v (inr h) = let i = index_of xs v h in let lt = i.1 in (suc i.0, omega (arith, lt), i.2)

by_same : (x v : Var) (xs : List Var) → ((x.id ≡ v.id) → ⊥) → var_type v.id xs ≡ Some v.type_ → (b : Bool) → (x.id == v.id) ≡ b → (if b then Some x.type_ else var_type v.id xs) ≡ Some v.type_
by_same x v xs n h true e = absurd (n (eqb-true x.id v.id e))
by_same x v xs n h false e = h

pub known : (xs : List Var) (v : Var) → AllPairs DifferInId xs → Among xs v → var_type v.id xs ≡ Some v.type_
known [] v pairs h = absurd h
known (x ∷ xs) v pairs (inl e) =
    subst (λ (y : Var). (if y.id == v.id then Some y.type_ else var_type v.id xs) ≡ Some v.type_) (sym e)
    (subst (λ b. (if b then Some v.type_ else var_type v.id xs) ≡ Some v.type_) (sym (eq-eqb v.id v.id refl)) refl)
known (x ∷ xs) v pairs (inr h) =
    let i = index_of xs v h in
    let lt = i.1 in
    let apart : x.id ≡ v.id → ⊥ = λ e. pairs 0 (suc i.0) x (omega arith) (omega (arith, lt)) (e ∙ ap (λ (y : Var). y.id) (sym (i.2 x))) in
    by_same x v xs apart (known xs v (λ j k d l m. pairs (suc j) (suc k) d (omega (arith, l)) (omega (arith, m))) h) (x.id == v.id) refl

pub among_left : (xs ys : List Var) (v : Var) → Among xs v → Among (xs ++ ys) v
among_left [] ys v h = absurd h
among_left (x ∷ xs) ys v (inl e) = inl e
among_left (x ∷ xs) ys v (inr h) = inr (among_left xs ys v h)

pub among_right : (xs ys : List Var) (v : Var) → Among ys v → Among (xs ++ ys) v
among_right [] ys v h = h
among_right (x ∷ xs) ys v h = inr (among_right xs ys v h)

among_globals : (gs : List PackageVar) (n : ℕ) (x : PackageVar) (v : Var) → slice_get gs n ≡ Some x → Among x.vars v → Among (flat_map initialiser_vars gs) v
among_globals [] n x v e h = absurd (cc)
among_globals (g ∷ gs) zero x v e h = among_left g.vars (flat_map initialiser_vars gs) v (subst (λ (y : PackageVar). Among y.vars v) (sym (some_inj g x e)) h)
among_globals (g ∷ gs) (suc n) x v e h = among_right g.vars (flat_map initialiser_vars gs) v (among_globals gs n x v e h)

pub all_vars_of : (p : CoreProgram) (vs : List Var) → ((v : Var) → Among vs v → IsVar p v) → AreVars p vs
all_vars_of p [] h = tt
all_vars_of p (v ∷ vs) h = (h v (inl refl), all_vars_of p vs (λ u k. h u (inr k)))

nth_of : {A : Type 0} (Q : A → Type 0) (xs : List A) (k : ℕ) (x : A) → AllByRecursion Q xs → slice_get xs k ≡ Some x → Q x
nth_of Q [] k x h e = absurd (cc)
nth_of Q (y ∷ ys) zero x h e = subst Q (some_inj y x e) h.0
nth_of Q (y ∷ ys) (suc k) x h e = nth_of Q ys k x h.1 e

-- ---- package variables

global_leaves : CoreProgram → List PackageVar → List Leaf
global_leaves p [] = []
global_leaves p (g ∷ gs) = leaves_of p.names g.type_ ++ global_leaves p gs

globals_lie : (p : CoreProgram) (gs : List PackageVar) (n : ℕ) (t : Ty) → global_type (slice_get gs n) ≡ Some t → Spans (global_leaves p gs) (global_base p.names gs n) (leaves_of p.names t)
unfolding global_leaves
globals_lie p [] n t e = absurd (cc)
globals_lie p (g ∷ gs) zero t e =
    subst (λ u. Spans (leaves_of p.names g.type_ ++ global_leaves p gs) 0 (leaves_of p.names u)) (some_inj g.type_ t e)
    (spans_first (leaves_of p.names g.type_ ++ global_leaves p gs) 0 (leaves_of p.names g.type_) (global_leaves p gs) (whole (leaves_of p.names g.type_ ++ global_leaves p gs)))
globals_lie p (g ∷ gs) (suc n) t e =
    subst (λ k. Spans (leaves_of p.names g.type_ ++ global_leaves p gs) (k + global_base p.names gs n) (leaves_of p.names t)) (sym (size_leaves p.names g.type_))
    (past (leaves_of p.names g.type_) (global_leaves p gs) (global_base p.names gs n) (leaves_of p.names t) (globals_lie p gs n t e))

globals_zero : (p : CoreProgram) (w : World) (gs : List PackageVar) → Lists p w (global_leaves p gs) (global_zeros p.names gs)
unfolding global_leaves
globals_zero p w [] = tt
globals_zero p w (g ∷ gs) = lists_append p w (leaves_of p.names g.type_) (global_leaves p gs) (zeros (shape_of p.names g.type_)) (global_zeros p.names gs) (zeros_of p w p.names g.type_) (globals_zero p w gs)

-- the variables that one initialiser sets are those of the program at these places
by_first : (p : CoreProgram) (v : PackageVar) (k : ℕ) (ns : List ℕ) (b : Bool) → slice_get p.globals k ≡ Some v → GlobalsTyped p ns (types_at p ns) → GlobalsTyped p (if b then k ∷ ns else ns) (types_at p (if b then k ∷ ns else ns))
by_first p v k ns true e h =
    subst (λ o. GlobalsTyped p (k ∷ ns) (type_in o ++ types_at p ns)) (sym e) (ap global_type e, h)
by_first p v k ns false e h = h

set_typed : (p : CoreProgram) (x : PackageVar) (k : ℕ) (vs : List PackageVar) → ((j : ℕ) (v : PackageVar) → slice_get vs j ≡ Some v → slice_get p.globals (k + j) ≡ Some v)
    → GlobalsTyped p (set_with x k vs) (types_at p (set_with x k vs))
set_typed p x k [] at = tt
set_typed p x k (v ∷ vs) at =
    let z : k + 0 ≡ k = omega arith in
    by_first p v k (set_with x (suc k) vs) ((v.first == x.number) && bytes_eq v.package_ x.package_) (subst (λ j. slice_get p.globals j ≡ Some v) z (at 0 v refl))
    (set_typed p x (suc k) vs (λ j u e. let y : k + suc j ≡ suc k + j = omega arith in subst (λ i. slice_get p.globals i ≡ Some u) y (at (suc j) u e)))

module _ (p : CoreProgram) (w : World) (sound : Sound p) where
  abbrev T : List Task → Type 0
  T ts = TasksTyped p w [] [] [] ts

  -- a function without parameters and results is called
  plain_call : (func : ℕ) (rest : List Task) → IsPlainFunc p func → T rest → T (call_with (the_function func) 0 ∷ rest)
  plain_call func rest h k =
      let f : CoreFunc = h.function in
      let c : CallTyped p [] (the_function func) (listed_types f.params) (listed_types f.results) = calls_function func f h.is_function (subst (AreHad []) (sym h.captures_nothing) tt) h.no_method in
      let c1 = subst (λ ps. CallTyped p [] (the_function func) (listed_types ps) (listed_types f.results)) h.no_params c in
      let c2 = subst (λ rs. CallTyped p [] (the_function func) [] (listed_types rs)) h.no_results c1 in
      call_typed [] [] (the_function func) [] [] 0 rest c2 refl k

  init_scope : (x : PackageVar) (n : ℕ) → slice_get p.globals n ≡ Some x → ScopeTyped p [] (record { vars = []; declarable = x.vars; results = no_tys; breaks = []; continues = [] })
  init_scope x n e = record {
    in_scope = tt;
    declarable = all_vars_of p x.vars (λ v h. known (all_vars p) v sound.variables_differ (among_right (flat_map func_vars p.funcs) (flat_map initialiser_vars p.globals) v (among_globals p.globals n x v e h)));
  }

  init : (x : PackageVar) (n : ℕ) (b : Bound) (rest : List Task) → slice_get p.globals n ≡ Some x → SoundInitialiser p x b → T rest → T (initialised b (set_with x 0 p.globals) rest)
  init x n no_bound rest e h k = k
  init x n (bound q) rest e h k =
      let ns = set_with x 0 p.globals in
      ev p w [] q [] (record { vars = []; declarable = x.vars; results = no_tys; breaks = []; continues = [] }) [] (set_globals ns ∷ rest) (init_scope x n e) h.0
      (subst (λ ts. TasksTyped p w [] [] (pushed_slots (values_of_types ts) []) (set_globals ns ∷ rest)) (sym h.2)
      (globals_typed [] [] ns (types_at p ns) rest (set_typed p x 0 p.globals (λ j v f. let z : j ≡ 0 + j = omega arith in subst (λ i. slice_get p.globals i ≡ Some v) z f)) k))

  init_at : (n : ℕ) (o : Option PackageVar) (rest : List Task) → slice_get p.globals n ≡ o → T rest → T (initialised_at p o rest)
  init_at n None rest e k = k
  init_at n (Some x) rest e k = init x n x.initialiser rest e (nth_of (SoundVariable p) p.globals n x (recursion_from_All (SoundVariable p) p.globals sound.package_variables) e).initialiser k

  all_init : (order : List InitStep) (rest : List Task) → OrderFits p order → T rest → T (init_tasks p order rest)
  all_init [] rest h k = k
  all_init (initialise n ∷ order) rest h k = init_at n (slice_get p.globals n) (init_tasks p order rest) refl (all_init order rest h k)
  all_init (call_init func ∷ order) rest h k = plain_call func (init_tasks p order rest) h.0 (all_init order rest h.1 k)

  begins : (order : List InitStep) → OrderFits p order → T (init_tasks p order (call_with (the_function p.main) 0 ∷ finish ∷ []))
  begins order h = all_init order (call_with (the_function p.main) 0 ∷ finish ∷ []) h (plain_call p.main (finish ∷ []) sound.main_fits (finish_typed [] [] [] refl))

first_world : CoreProgram → World
first_world p = record { cells = global_leaves p p.globals; maps = []; channels = [] }

pub starts : StartsWellFormed
unfolding first_world
starts p order sound h = record {
  world = first_world p;
  globals_lie = λ n t e. globals_lie p p.globals n t e;
  memory_typed = record { cells_typed = globals_zero p (first_world p) p.globals; maps_typed = tt; channels_typed = tt };
  goroutines_typed = ((([], record { values_typed = tt; places_typed = tt; results_had = tt; deferred_typed = tt; mode_typed = tt; purpose_fits = tt }, begins p (first_world p) sound order h), tt), tt);
}
