-- The variables of a function that is called: what it takes, its results and what it captured, and what they hold.
use Rattle.std.proofs.Common.{inl, inr, refl, sym, ap, ◌∙◌, subst, arith}
use Rattle.std.specs.Prelude.{◌≡◌, ℕ, zero, suc, List, [], ◌∷◌, ◌++◌, Option, Some, Contains, slice_get, length, take, drop, flat_map}
use Rattle.go_type.specs.Tree.{Ty}
use Rattle.go_core.specs.Layout.{shape_of}
use Rattle.go_core.specs.Memory.{Value, zeros}
use Rattle.go_core.specs.CoreTree.{Var, CoreFunc, CoreProgram}
use Rattle.go_core.specs.SoundNode.{types_of_vars}
use Rattle.go_core.specs.SoundProgram.{Sound, all_vars, func_vars, initialiser_vars, or_none, captured_vars}
use Rattle.go_core.specs.Calls.{Bindings, with_var, with_vars, with_zeros, captured_places}
use Rattle.go_core.specs.Leaves.{leaves_of}
use Rattle.go_core.specs.Typed.{World, AreAt, MemoryTyped, Extends}
use Rattle.go_core.specs.TasksTyped.{with_ids, AreVars, HasVars}
use Rattle.go_core.specs.Applies.{values_of_types, AreIn}
use Rattle.go_core.specs.WellFormed.{ids_of, PlacesTyped}
use Rattle.go_core.proofs.TypedGrowth.{are_in_grow}
use Rattle.go_core.proofs.TasksGrow.{Within}
use Rattle.go_core.proofs.LeavesLemmas.{zeros_of}
use Rattle.go_core.proofs.MemoryLemmas.{both_worlds, with_cells, cells_extend, fresh, fresh_lies}
use Rattle.go_core.proofs.OpenedScope.{within_ids}
use Rattle.go_core.proofs.StartTyped.{Among, known, all_vars_of, among_left, among_right}
use Rattle.go_core.proofs.FramesGrow.{places}

some_inj : {A : Type 0} (x y : A) → Some x ≡ Some y → x ≡ y
some_inj x y e = cc

-- ---- lists

pub contained_at : {A : Type 0} (xs : List A) (k : ℕ) (x : A) → slice_get xs k ≡ Some x → Contains xs x
contained_at [] k x e = absurd (cc)
contained_at (y ∷ ys) zero x e = (zero, omega arith, some_inj y x e)
contained_at (y ∷ ys) (suc k) x e = let c = contained_at ys k x e in let lt = c.1 in (suc c.0, omega (arith, lt), c.2)

pub none_contained : (l : ℕ) → Contains [] l → ⊥
none_contained l c = let lt = c.1 in absurd (omega arith)

pub take_front : {A : Type 0} (n : ℕ) (xs ys : List A) → length xs ≡ n → take n (xs ++ ys) ≡ xs
take_front n xs ys e = subst (λ k. take k (xs ++ ys) ≡ xs) e (front xs ys)
  where
    front : {A : Type 0} (xs ys : List A) → take (length xs) (xs ++ ys) ≡ xs
    front [] ys = refl
    front (x ∷ xs) ys = ap (λ l. x ∷ l) (front xs ys)

pub drop_front : {A : Type 0} (n : ℕ) (xs ys : List A) → length xs ≡ n → drop n (xs ++ ys) ≡ ys
drop_front n xs ys e = subst (λ k. drop k (xs ++ ys) ≡ ys) e (front xs ys)
  where
    front : {A : Type 0} (xs ys : List A) → drop (length xs) (xs ++ ys) ≡ ys
    front [] ys = refl
    front (x ∷ xs) ys = front xs ys

pub apart : {A : Type 0} (xs ys zs : List A) → (xs ++ ys) ++ zs ≡ xs ++ (ys ++ zs)
apart [] ys zs = refl
apart (x ∷ xs) ys zs = ap (λ l. x ∷ l) (apart xs ys zs)

pub first_one : (x y : Ty) (xs ys : List Ty) → x ∷ xs ≡ y ∷ ys → x ≡ y
first_one x y xs ys e = cc

others_one : (x y : Ty) (xs ys : List Ty) → x ∷ xs ≡ y ∷ ys → xs ≡ ys
others_one x y xs ys e = cc

pub first_var : (x y : Var) (xs ys : List Var) → x ∷ xs ≡ y ∷ ys → x ≡ y
first_var x y xs ys e = cc

-- ---- a function's variables: what it takes, and its results

pub record Parted (hs : List Var) (A B : List Ty) : Type 0 where
  pub first : List Var
  pub second : List Var
  pub whole : hs ≡ first ++ second
  pub first_types : types_of_vars first ≡ A
  pub second_types : types_of_vars second ≡ B

pub parted : (hs : List Var) (A B : List Ty) → types_of_vars hs ≡ A ++ B → Parted hs A B
parted hs [] B e = record { first = []; second = hs; whole = refl; first_types = refl; second_types = e }
parted [] (a ∷ A) B e = absurd (cc)
parted (h ∷ hs) (a ∷ A) B e =
    let q = parted hs A B (others_one h.type_ a (types_of_vars hs) (A ++ B) e) in
    record {
      first = h ∷ q.first;
      second = q.second;
      whole = ap (λ l. h ∷ l) q.whole;
      first_types = ap (λ t. t ∷ types_of_vars q.first) (first_one h.type_ a (types_of_vars hs) (A ++ B) e) ∙ ap (λ l. a ∷ l) q.first_types;
      second_types = q.second_types;
    }

pub vars_length : (vs : List Var) → length (types_of_vars vs) ≡ length vs
vars_length [] = refl
vars_length (v ∷ vs) = ap suc (vars_length vs)

module _ (p : CoreProgram) where
  among_funcs : (fs : List CoreFunc) (k : ℕ) (f : CoreFunc) (v : Var) → slice_get fs k ≡ Some f → Among f.vars v → Among (flat_map func_vars fs) v
  among_funcs [] k f v e h = absurd (cc)
  among_funcs (g ∷ gs) zero f v e h = among_left g.vars (flat_map func_vars gs) v (subst (λ (y : CoreFunc). Among y.vars v) (sym (some_inj g f e)) h)
  among_funcs (g ∷ gs) (suc k) f v e h = among_right g.vars (flat_map func_vars gs) v (among_funcs gs k f v e h)

  pub func_vars_known : Sound p → (k : ℕ) (f : CoreFunc) → slice_get p.funcs k ≡ Some f → AreVars p f.vars
  func_vars_known sound k f e =
      all_vars_of p f.vars (λ v h. known (all_vars p) v sound.variables_differ (among_left (flat_map func_vars p.funcs) (flat_map initialiser_vars p.globals) v (among_funcs p.funcs k f v e h)))

  pub vars_front : (xs ys : List Var) → AreVars p (xs ++ ys) → AreVars p xs
  vars_front [] ys h = tt
  vars_front (x ∷ xs) ys h = (h.0, vars_front xs ys h.1)

  pub vars_back : (xs ys : List Var) → AreVars p (xs ++ ys) → AreVars p ys
  vars_back [] ys h = h
  vars_back (x ∷ xs) ys h = vars_back xs ys h.1

  pub had_all : (vs : List Var) (has : List ℕ) → AreVars p vs → HasVars p (with_ids vs has) vs
  had_all [] has h = tt
  had_all (v ∷ vs) has h = ((within_ids vs (v.id ∷ has) v.id (inl refl), h.0), had_all vs (v.id ∷ has) h.1)

  pub had_both : (has : List ℕ) (xs ys : List Var) → HasVars p has xs → HasVars p has ys → HasVars p has (xs ++ ys)
  had_both has [] ys h k = k
  had_both has (x ∷ xs) ys h k = (h.0, had_both has xs ys h.1 k)

  -- ---- captured variables

  pub captured_typed : (w : World) (vs bs : List ℕ) → AreAt p w.cells vs bs → PlacesTyped p w (captured_places vs bs)
  captured_typed w [] [] h = tt
  captured_typed w [] (b ∷ bs) h = absurd h
  captured_typed w (v ∷ vs) [] h = absurd h
  captured_typed w (v ∷ vs) (b ∷ bs) h = (h.0, captured_typed w vs bs h.1)

  pub captured_ids : (w : World) (vs bs : List ℕ) → AreAt p w.cells vs bs → ids_of (captured_places vs bs) ≡ vs
  captured_ids w [] [] h = refl
  captured_ids w [] (b ∷ bs) h = absurd h
  captured_ids w (v ∷ vs) [] h = absurd h
  captured_ids w (v ∷ vs) (b ∷ bs) h = ap (λ l. v ∷ l) (captured_ids w vs bs h.1)

  pub captured_had : (w : World) (vs bs had : List ℕ) → AreAt p w.cells vs bs → Within vs had → HasVars p had (captured_vars p vs)
  captured_had w [] bs had h i = tt
  captured_had w (v ∷ vs) [] had h i = absurd h
  captured_had w (v ∷ vs) (b ∷ bs) had h i =
      subst (λ o. HasVars p had (or_none o v ++ captured_vars p vs)) (sym h.0.is_known) ((i v (inl refl), h.0.is_known), captured_had w vs bs had h.1 (λ u k. i u (inr k)))

  -- ---- variables that take values

  pub record Held (w : World) (vs : List Var) (b : Bindings) (o : Option Bindings) : Type 0 where
    pub after : Bindings
    pub is_after : o ≡ Some after
    pub world : World
    pub extends : Extends w world
    pub memory_typed : MemoryTyped p world after.memory
    pub places_typed : PlacesTyped p world after.places
    pub ids : ids_of after.places ≡ with_ids vs (ids_of b.places)

  pub binds : (w : World) (vs : List Var) (xs : List Value) (b : Bindings) (u : World) → Extends w u → MemoryTyped p u b.memory → PlacesTyped p u b.places → AreVars p vs → AreIn p u (values_of_types (types_of_vars vs)) xs
      → Held w vs b (with_vars p.names vs xs b)
  binds w [] [] b u x m c d h = record { after = b; is_after = refl; world = u; extends = x; memory_typed = m; places_typed = c; ids = refl }
  binds w [] (y ∷ ys) b u x m c d h = absurd h
  binds w (v ∷ vs) [] b u x m c d h = absurd h
  binds w (v ∷ vs) (y ∷ ys) b u x m c d h =
      let ls = leaves_of p.names v.type_ in
      let u1 = with_cells u ls in
      let x1 = cells_extend u ls in
      let n = binds w vs ys (with_var p.names v y b) u1 (both_worlds w u u1 x x1) (fresh p u b.memory ls y m h.0)
      (record { type_ = v.type_; is_known = d.0; lies = fresh_lies p u b.memory ls m }, places p u u1 x1 b.places c) d.1 (are_in_grow p u u1 x1 (values_of_types (types_of_vars vs)) ys h.1) in
      record { after = n.after; is_after = n.is_after; world = n.world; extends = n.extends; memory_typed = n.memory_typed; places_typed = n.places_typed; ids = n.ids }

  pub record Holds (w : World) (vs : List Var) (b after : Bindings) : Type 0 where
    pub world : World
    pub extends : Extends w world
    pub memory_typed : MemoryTyped p world after.memory
    pub places_typed : PlacesTyped p world after.places
    pub ids : ids_of after.places ≡ with_ids vs (ids_of b.places)

  pub zero_binds : (w : World) (vs : List Var) (b : Bindings) (u : World) → Extends w u → MemoryTyped p u b.memory → PlacesTyped p u b.places → AreVars p vs → Holds w vs b (with_zeros p.names vs b)
  zero_binds w [] b u x m c d = record { world = u; extends = x; memory_typed = m; places_typed = c; ids = refl }
  zero_binds w (v ∷ vs) b u x m c d =
      let ls = leaves_of p.names v.type_ in
      let y = zeros (shape_of p.names v.type_) in
      let u1 = with_cells u ls in
      let x1 = cells_extend u ls in
      let n = zero_binds w vs (with_var p.names v y b) u1 (both_worlds w u u1 x x1) (fresh p u b.memory ls y m (zeros_of p u p.names v.type_))
      (record { type_ = v.type_; is_known = d.0; lies = fresh_lies p u b.memory ls m }, places p u u1 x1 b.places c) d.1 in
      record { world = n.world; extends = n.extends; memory_typed = n.memory_typed; places_typed = n.places_typed; ids = n.ids }
