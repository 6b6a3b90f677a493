-- Types that are reached through embedded fields.
use Rattle.std.proofs.Common.{◌≡◌, ℕ, zero, suc, ◌+◌, ◌<◌, ◌≤◌, Bool, true, false, List, [], ◌∷◌, ◌++◌, Some, None, get_or, length, length-append, map, refl, ap, sym, ◌∙◌, subst, arith, inl, inr, append_assoc}
use Rattle.std.specs.Prelude.{◌||◌, ◌⊎◌, nat_eq, slice_get, if◌then◌else◌}
use Rattle.std.specs.List.{AllByRecursion, list_any}
use Rattle.std.proofs.lemmas.List.{append-nil}
use Rattle.std.proofs.lemmas.Map.Steps.{length-le_from_distinct_below}
use Rattle.indexmap.specs.IndexSet.{insert_key}
use Rattle.std.proofs.lemmas.Bool.{eqb-true, eq-eqb}
use Rattle.std.proofs.lemmas.List.Folds.{list_any-append}
use Rattle.go_type.specs.Tree.{Ty, Fields, bool, no_fields, more_fields}
use Rattle.go_type.specs.Levels.{tree_of, fields_of}
use Rattle.go_type.specs.Named.{NamedTy}
use Rattle.std.proofs.lemmas.Bool.{cases_lt}
use Rattle.go_type.specs.declared.types.FieldRow.{FieldRow}
use Rattle.go_type.specs.Underlying.{underlying}
use Rattle.go_type.specs.Members.{Member, field, method, behind, Sought, own_members, members_at, through, fields_in, base_of, steps_to}
use Rattle.go_type.specs.Chains.{when_embedded, bases_of, embeds}
use Rattle.go_type.specs.Tried.{is_method, has_method}
use Rattle.go_type.specs.Reached.{Holds, Reaches, AreIds, IsClosed, Extends}
use Rattle.go_type.specs.declared.steps.Step.{Step}

pub or_split : (a b : Bool) → (a || b) ≡ true → (a ≡ true) ⊎ (b ≡ true)
or_split true b h = inl refl
or_split false b h = inr h

or_left : (a b : Bool) → a ≡ true → (a || b) ≡ true
or_left true b h = refl
or_left false b h = cc

or_right : (a b : Bool) → b ≡ true → (a || b) ≡ true
or_right true b h = refl
or_right false b h = h

-- ---- ids in a list

pub held_more : (ids more : List ℕ) (i : ℕ) → Holds ids i → Holds (ids ++ more) i
held_more ids more i h = list_any-append (nat_eq i) ids more ∙ or_left (list_any (nat_eq i) ids) (list_any (nat_eq i) more) h

pub held_at : (ids : List ℕ) (i : ℕ) → Holds ids i → (j : ℕ) × (j < length ids) × (slice_get ids j ≡ Some i)
held_at [] i h = cc
held_at (k ∷ ids) i h =
    elim (or_split (nat_eq i k) (list_any (nat_eq i) ids) h) [
      | inl e ↦ (0, omega arith, ap Some (sym (eqb-true i k e)))
      | inr e ↦ let r = held_at ids i e in (suc r.0, omega (arith, r.1), r.2)
    ]

pub is_held : (ids : List ℕ) (j i : ℕ) → slice_get ids j ≡ Some i → Holds ids i
is_held [] j i h = cc
is_held (k ∷ ids) zero i h = let e : k ≡ i = cc in or_left (nat_eq i k) (list_any (nat_eq i) ids) (eq-eqb i k (sym e))
is_held (k ∷ ids) (suc j) i h = or_right (nat_eq i k) (list_any (nat_eq i) ids) (is_held ids j i h)

pub reaches_more : (ts : List Ty) (ids more : List ℕ) (us : List Ty) → AllByRecursion (Reaches ts ids) us → AllByRecursion (Reaches ts (ids ++ more)) us
reaches_more ts ids more [] a = tt
reaches_more ts ids more (u ∷ us) a = (record { id = a.0.id; held = held_more ids more a.0.id a.0.held; tree = a.0.tree }, reaches_more ts ids more us a.1)

pub few_ids : (n : ℕ) (ids : List ℕ) → AreIds n ids → length ids ≤ n
few_ids n ids a = length-le_from_distinct_below ids n a.distinct a.below

-- what is inserted goes to the end, unless it is there
pub inserted : (ids : List ℕ) (i : ℕ) → (more : List ℕ) × (insert_key nat_eq ids i ≡ ids ++ more) × Holds (ids ++ more) i
inserted ids i = by (list_any (nat_eq i) ids) refl
  where
    by : (b : Bool) → list_any (nat_eq i) ids ≡ b → (more : List ℕ) × (insert_key nat_eq ids i ≡ ids ++ more) × Holds (ids ++ more) i
    by true e = ([], ap (λ (b : Bool). if b then ids else ids ++ i ∷ []) e ∙ sym (append-nil ids), held_more ids [] i e)
    by false e =
        let self : nat_eq i i ≡ true = eq-eqb i i refl in
        let last : list_any (nat_eq i) (i ∷ []) ≡ true = or_left (nat_eq i i) false self in
        (i ∷ [], ap (λ (b : Bool). if b then ids else ids ++ i ∷ []) e, list_any-append (nat_eq i) ids (i ∷ []) ∙ or_right (list_any (nat_eq i) ids) (list_any (nat_eq i) (i ∷ [])) last)

pub inserted_below : (n : ℕ) (ids : List ℕ) (i : ℕ) → ((j : ℕ) → Holds ids j → j < n) → i < n → (j : ℕ) → Holds (insert_key nat_eq ids i) j → j < n
inserted_below n ids i below l j = by (list_any (nat_eq i) ids) refl
  where
    other : Holds (ids ++ i ∷ []) j → j < n
    other h =
        elim (or_split (list_any (nat_eq j) ids) (list_any (nat_eq j) (i ∷ [])) (sym (list_any-append (nat_eq j) ids (i ∷ [])) ∙ h)) [
          | inl e ↦ below j e
          | inr e ↦ elim (or_split (nat_eq j i) false e) [ inl k ↦ let q : j ≡ i = eqb-true j i k in omega arith | inr k ↦ cc ]
        ]

    by : (b : Bool) → list_any (nat_eq i) ids ≡ b → Holds (insert_key nat_eq ids i) j → j < n
    by true e h = below j (subst (λ (ks : List ℕ). Holds ks j) (ap (λ (b : Bool). if b then ids else ids ++ i ∷ []) e) h)
    by false e h = other (subst (λ (ks : List ℕ). Holds ks j) (ap (λ (b : Bool). if b then ids else ids ++ i ∷ []) e) h)

-- what reaches the rest reaches all, with more ids too
abbrev pub SoFar : List Ty → List ℕ → List Ty → List Ty → Type 0
SoFar ts ids rest all = (more : List ℕ) → AllByRecursion (Reaches ts (ids ++ more)) rest → AllByRecursion (Reaches ts (ids ++ more)) all

pub so_far_in : (ts : List Ty) (ids new : List ℕ) (i : ℕ) (b : Ty) (rest all : List Ty) → new ≡ insert_key nat_eq ids i → get_or ts i bool ≡ b → SoFar ts ids (b ∷ rest) all → SoFar ts new rest all
so_far_in ts ids new i b rest all e tree so more a =
    let x = inserted ids i in
    let k : new ++ more ≡ ids ++ (x.0 ++ more) = ap (λ (ks : List ℕ). ks ++ more) (e ∙ x.1) ∙ append_assoc ids x.0 more in
    let held : Holds (ids ++ (x.0 ++ more)) i = subst (λ (ks : List ℕ). Holds ks i) (append_assoc ids x.0 more) (held_more (ids ++ x.0) more i x.2) in
    subst (λ (ks : List ℕ). AllByRecursion (Reaches ts ks) all) (sym k)
    (so (x.0 ++ more) (record { id = i; held = held; tree = tree }, subst (λ (ks : List ℕ). AllByRecursion (Reaches ts ks) rest) k a))

pub so_far_end : (ts : List Ty) (ids : List ℕ) (all : List Ty) → SoFar ts ids [] all → AllByRecursion (Reaches ts ids) all
so_far_end ts ids all so = subst (λ (ks : List ℕ). AllByRecursion (Reaches ts ks) all) (append-nil ids) (so [] tt)

pub extends_in : (old ids new : List ℕ) (i : ℕ) → Extends old ids → new ≡ insert_key nat_eq ids i → Extends old new
extends_in old ids new i x e =
    let y = inserted ids i in
    record { more = x.more ++ y.0; is = e ∙ y.1 ∙ ap (λ (ks : List ℕ). ks ++ y.0) x.is ∙ append_assoc old x.more y.0 }

pub extends_itself : (ids : List ℕ) → Extends ids ids
extends_itself ids = record { more = []; is = sym (append-nil ids) }

pub reaches_extended : (ts : List Ty) (old new : List ℕ) (us : List Ty) → Extends old new → AllByRecursion (Reaches ts old) us → AllByRecursion (Reaches ts new) us
reaches_extended ts old new us x a = subst (λ (ks : List ℕ). AllByRecursion (Reaches ts ks) us) (sym x.is) (reaches_more ts old x.more us a)

pub held_extended : (old new : List ℕ) (i : ℕ) → Extends old new → Holds old i → Holds new i
held_extended old new i x h = subst (λ (ks : List ℕ). Holds ks i) (sym x.is) (held_more old x.more i h)

get_front : (xs ys : List ℕ) (j : ℕ) → j < length xs → slice_get (xs ++ ys) j ≡ slice_get xs j
get_front [] ys j l = absurd (omega arith)
get_front (x ∷ xs) ys zero l = refl
get_front (x ∷ xs) ys (suc j) l = get_front xs ys j (omega arith)

-- what stands at the front stays
pub get_extended : (old new : List ℕ) (j : ℕ) → Extends old new → j < length old → slice_get new j ≡ slice_get old j
get_extended old new j x l = ap (λ (ks : List ℕ). slice_get ks j) x.is ∙ get_front old x.more j l

pub length_extended : (old new : List ℕ) → Extends old new → length old ≤ length new
length_extended old new x = omega (arith, ap length x.is, length-append old x.more)

pub rest_is : (ts : List Ty) (ids : List ℕ) (rest fs : List FieldRow) (f : FieldRow) (b : Bool) (all : List Ty) → rest ≡ f ∷ fs → f.embedded ≡ b → SoFar ts ids (bases_of (fields_of ts rest)) all → SoFar ts ids (when_embedded b (tree_of ts f.ty) ++ bases_of (fields_of ts fs)) all
rest_is ts ids rest fs f b all e h so =
    subst (λ (x : Bool). SoFar ts ids (when_embedded x (tree_of ts f.ty) ++ bases_of (fields_of ts fs)) all) h (subst (λ (xs : List FieldRow). SoFar ts ids (bases_of (fields_of ts xs)) all) e so)

pub rest_ends : (ts : List Ty) (ids : List ℕ) (rest : List FieldRow) (all : List Ty) → length rest ≡ 0 → SoFar ts ids (bases_of (fields_of ts rest)) all → AllByRecursion (Reaches ts ids) all
rest_ends ts ids [] all e so = so_far_end ts ids all so
rest_ends ts ids (f ∷ fs) all e so = absurd (omega arith)

-- ---- the walk over the ids

pub only_held : (i : ℕ) (ids : List ℕ) → ids ≡ i ∷ [] → Holds ids i
only_held i ids e = subst (λ (ks : List ℕ). Holds ks i) (sym e) (or_left (nat_eq i i) false (eq-eqb i i refl))

pub only_below : (n i : ℕ) (ids : List ℕ) → ids ≡ i ∷ [] → i < n → (j : ℕ) → Holds ids j → j < n
only_below n i ids e l j h = by (or_split (nat_eq j i) false (subst (λ (ks : List ℕ). Holds ks j) e h))
  where
    by : (nat_eq j i ≡ true) ⊎ (false ≡ true) → j < n
    by (inl k) = let q : j ≡ i = eqb-true j i k in omega arith
    by (inr k) = cc

pub within_at : (xs : List ℕ) (j i : ℕ) → slice_get xs j ≡ Some i → j < length xs
within_at [] j i h = cc
within_at (x ∷ xs) zero i h = omega arith
within_at (x ∷ xs) (suc j) i h = omega (arith, within_at xs j i h)

pub past_at : (xs : List ℕ) (j : ℕ) → slice_get xs j ≡ None → length xs ≤ j
past_at [] j h = omega arith
past_at (x ∷ xs) zero h = cc
past_at (x ∷ xs) (suc j) h = omega (arith, past_at xs j h)

-- the types at the places below this one embed types that have ids
abbrev pub ClosedBelow : List NamedTy → List Ty → ℕ → List ℕ → Type 0
ClosedBelow ns ts n ids = (j : ℕ) → j < n → (i : ℕ) → slice_get ids j ≡ Some i → AllByRecursion (Reaches ts ids) (embeds ns (get_or ts i bool))

pub closed_step : (ns : List NamedTy) (ts : List Ty) (old new : List ℕ) (next id : ℕ) → Extends old new → slice_get old next ≡ Some id → ClosedBelow ns ts next old → AllByRecursion (Reaches ts new) (embeds ns (get_or ts id bool)) → ClosedBelow ns ts (next + 1) new
closed_step ns ts old new next id x e so here j l i h = by (cases_lt j next)
  where
    at : next < length old
    at = within_at old next id e

    by : (j < next) ⊎ (next ≤ j) → AllByRecursion (Reaches ts new) (embeds ns (get_or ts i bool))
    by (inl k) = let g : slice_get old j ≡ Some i = sym (get_extended old new j x (omega (arith, at))) ∙ h in reaches_extended ts old new (embeds ns (get_or ts i bool)) x (so j k i g)
    by (inr k) =
        let same : j ≡ next = omega arith in
        let g : slice_get old next ≡ Some i = sym (get_extended old new next x at) ∙ ap (slice_get new) (sym same) ∙ h in
        let q : id ≡ i = cc in
        subst (λ (m : ℕ). AllByRecursion (Reaches ts new) (embeds ns (get_or ts m bool))) q here

pub closed_all : (ns : List NamedTy) (ts : List Ty) (ids : List ℕ) (n : ℕ) → ClosedBelow ns ts n ids → length ids ≤ n → IsClosed ns ts ids
closed_all ns ts ids n so l = record { at = λ i h. let r = held_at ids i h in so r.0 (omega (arith, r.1)) i r.2 }

-- ---- a method that is found at some depth is declared by a type that is reached

behind_is : (ss : List Step) (m : Member) → is_method (behind ss m) ≡ is_method m
behind_is ss (field path) = refl
behind_is ss (method path of_ on_pointer params results variadic) = refl

behind_has : (ss : List Step) (ms : List Member) → has_method (map (behind ss) ms) ≡ has_method ms
behind_has ss [] = refl
behind_has ss (m ∷ ms) = ap (λ (b : Bool). b || has_method (map (behind ss) ms)) (behind_is ss m) ∙ ap (λ (b : Bool). is_method m || b) (behind_has ss ms)

module _ (ts : List Ty) (ids : List ℕ) where
  through_has : (p : Ty → List Member) (i : ℕ) (fs : Fields) → AllByRecursion (Reaches ts ids) (bases_of fs) → has_method (through p i fs) ≡ true → (r : ℕ) × Holds ids r × (has_method (p (get_or ts r bool)) ≡ true)
  through_has p i no_fields a h = cc
  through_has p i (more_fields name package_ t true tag fs) a h =
      let front = map (behind (steps_to i t)) (p (base_of t)) in
      elim (or_split (has_method front) (has_method (through p (i + 1) fs)) (sym (list_any-append is_method front (through p (i + 1) fs)) ∙ h)) [
        | inl e ↦ (a.0.id, a.0.held, ap (λ (u : Ty). has_method (p u)) a.0.tree ∙ sym (behind_has (steps_to i t) (p (base_of t))) ∙ e)
        | inr e ↦ through_has p (i + 1) fs a.1 e
      ]
  through_has p i (more_fields name package_ t false tag fs) a h = through_has p (i + 1) fs a h

  pub declared_by : (ns : List NamedTy) (f : Sought) → IsClosed ns ts ids → (d i : ℕ) → Holds ids i → has_method (members_at ns f d (get_or ts i bool)) ≡ true → (r : ℕ) × Holds ids r × (has_method (own_members ns f (get_or ts r bool)) ≡ true)
  unfolding members_at
  declared_by ns f closed zero i l h = (i, l, h)
  declared_by ns f closed (suc d) i l h =
      let r = through_has (members_at ns f d) 0 (fields_in (underlying ns (get_or ts i bool))) (closed.at i l) h in
      declared_by ns f closed d r.0 r.1 r.2
