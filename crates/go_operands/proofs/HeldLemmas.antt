-- What scopes hold, from the entries of their maps.
use Rattle.std.proofs.Common.{arith, ◌∙◌, refl, sym, ap, subst, true≢false, cond, take, drop}
use Rattle.std.specs.Prelude.{◌≡◌, ◌<◌, ◌≤◌, ◌-◌, ℕ, zero, suc, List, [], ◌∷◌, ◌++◌, Option, Some, None, Bool, true, false, bytes_eq, length, map, option_map, get_or, slice_set, is_some, Vec}
use Rattle.std.specs.Map.{lookup, set_value}
use Rattle.std.proofs.lemmas.Slice.Eq.{bytes_eq-Decides}
use Rattle.std.specs.declared.alloc.Global.{Global}
use Rattle.indexmap.specs.IndexMap.{insert_entry}
use Rattle.go_operands.specs.declared.scopes.declared.Declaration.{Declaration}
use Rattle.go_operands.specs.declared.scopes.declared.Declared.{Declared}
use Rattle.go_operands.specs.declared.scopes.scope.Scope.{Scope}
use Rattle.gj_base.specs.declared.place.Place.{Place}
use Rattle.go_operands.specs.Held.{Held, HeldPackage, what_in, place_held, add_at, declare_held, settle_held, first_of, seek, last_with, last_of, without_innermost, held_at, has_held, enter_held, package_with}
use Rattle.go_operands.specs.Holds.{held_of, held, held_package}

-- names that the test finds equal are equal
same_name : (x y : List ℕ) → bytes_eq x y ≡ true → x ≡ y
same_name x y h = grind (arith, bytes_eq-Decides)

pub own_name : (x : List ℕ) → bytes_eq x x ≡ true
own_name x = grind (arith, bytes_eq-Decides)

pub other_way : (x y : List ℕ) → bytes_eq x y ≡ bytes_eq y x
other_way x y = by (bytes_eq x y) (bytes_eq y x) refl refl
  where
    by : (a b : Bool) → bytes_eq x y ≡ a → bytes_eq y x ≡ b → bytes_eq x y ≡ bytes_eq y x
    by true b p q = p ∙ sym (subst (λ (z : List ℕ). bytes_eq z x ≡ true) (same_name x y p) (own_name x))
    by false false p q = p ∙ sym q
    by false true p q = absurd (true≢false (sym (subst (λ (z : List ℕ). bytes_eq z y ≡ true) (same_name y x q) (own_name y)) ∙ p))

-- the first of two, by a function
mapped : {A B : Type 0} (f : A → B) (b : Bool) (x : A) (o : Option A) (p : Option B) → option_map f o ≡ p → option_map f (cond b (Some x) o) ≡ cond b (Some (f x)) p
mapped f true x o p h = refl
mapped f false x o p h = h

abbrev is_named : List ℕ → Vec ℕ Global → Bool
is_named x k = bytes_eq x k.items

abbrev same_key : Vec ℕ Global → Vec ℕ Global → Bool
same_key x k = bytes_eq x.items k.items

-- ---- one scope

pub what-lookup : (x : List ℕ) (es : List (Vec ℕ Global × Declaration)) → option_map (λ (d : Declaration). d.what) (lookup (is_named x) es) ≡ what_in x (map held_of es)
what-lookup x [] = refl
what-lookup x (e ∷ es) =
    mapped (λ (d : Declaration). d.what) (bytes_eq x e.0.items) e.1 (lookup (is_named x) es) (what_in x (map held_of es)) (what-lookup x es)
    ∙ ap (λ (b : Bool). cond b (Some e.1.what) (what_in x (map held_of es))) (other_way x e.0.items)

pub place-lookup : (x : List ℕ) (es : List (Vec ℕ Global × Declaration)) → option_map (λ (d : Declaration). d.place) (lookup (is_named x) es) ≡ place_held x (map held_of es)
place-lookup x [] = refl
place-lookup x (e ∷ es) =
    mapped (λ (d : Declaration). d.place) (bytes_eq x e.0.items) e.1 (lookup (is_named x) es) (place_held x (map held_of es)) (place-lookup x es)
    ∙ ap (λ (b : Bool). cond b (Some e.1.place) (place_held x (map held_of es))) (other_way x e.0.items)

-- a name that isn't there goes last
pub insert-new : (es : List (Vec ℕ Global × Declaration)) (k : Vec ℕ Global) (v : Declaration) → place_held k.items (map held_of es) ≡ None
    → map held_of (insert_entry same_key es k v) ≡ map held_of es ++ held_of (k, v) ∷ []
insert-new [] k v h = refl
insert-new (e ∷ es) k v h = by (bytes_eq e.0.items k.items) refl h (insert-new es k v)
  where
    by : (b : Bool) → bytes_eq e.0.items k.items ≡ b → cond b (Some e.1.place) (place_held k.items (map held_of es)) ≡ None
        → (place_held k.items (map held_of es) ≡ None → map held_of (insert_entry same_key es k v) ≡ map held_of es ++ held_of (k, v) ∷ [])
        → map held_of (cond (bytes_eq k.items e.0.items) ((e.0, v) ∷ es) (e ∷ insert_entry same_key es k v)) ≡ held_of e ∷ map held_of es ++ held_of (k, v) ∷ []
    by true p q rest = absurd (cc)
    by false p q rest =
        ap (λ (b : Bool). map held_of (cond b ((e.0, v) ∷ es) (e ∷ insert_entry same_key es k v))) (other_way k.items e.0.items ∙ p) ∙ ap (λ (hs : List Held). held_of e ∷ hs) (rest q)

pub declare-new : (es : List (Vec ℕ Global × Declaration)) (k : Vec ℕ Global) (v : Declaration) (x : List ℕ) → k.items ≡ x → place_held x (map held_of es) ≡ None
    → map held_of (insert_entry same_key es k v) ≡ declare_held (record { name = x; place = v.place; what = v.what }) (map held_of es)
declare-new es k v x e h =
    insert-new es k v (ap (λ (y : List ℕ). place_held y (map held_of es)) e ∙ h)
    ∙ ap (λ (y : List ℕ). map held_of es ++ record { name = y; place = v.place; what = v.what } ∷ []) e
    ∙ ap (λ (o : Option Place). add_at o (record { name = x; place = v.place; what = v.what }) (map held_of es)) (sym h)

-- what a name stands for is set
pub settle-set : (x : List ℕ) (d : Declared) (es : List (Vec ℕ Global × Declaration)) (v : Declaration) → lookup (is_named x) es ≡ Some v
    → map held_of (set_value (is_named x) es (record v { what = d })) ≡ settle_held x d (map held_of es)
settle-set x d [] v h = refl
settle-set x d (e ∷ es) v h = by (bytes_eq x e.0.items) refl h (settle-set x d es v)
  where
    w : Declaration
    w = record v { what = d }

    by : (b : Bool) → bytes_eq x e.0.items ≡ b → cond b (Some e.1) (lookup (is_named x) es) ≡ Some v
        → (lookup (is_named x) es ≡ Some v → map held_of (set_value (is_named x) es (record v { what = d })) ≡ settle_held x d (map held_of es))
        → map held_of (cond b ((e.0, record v { what = d }) ∷ es) (e ∷ set_value (is_named x) es (record v { what = d })))
        ≡ cond (bytes_eq e.0.items x) (record (held_of e) { what = d } ∷ map held_of es) (held_of e ∷ settle_held x d (map held_of es))
    by true p q rest =
        let same : e.1 ≡ v = cc in
        ap (λ (u : Declaration). held_of (e.0, record u { what = d }) ∷ map held_of es) (sym same)
        ∙ ap (λ (b : Bool). cond b (record (held_of e) { what = d } ∷ map held_of es) (held_of e ∷ settle_held x d (map held_of es))) (sym (other_way e.0.items x ∙ p))
    by false p q rest =
        ap (λ (hs : List Held). held_of e ∷ hs) (rest q)
        ∙ ap (λ (b : Bool). cond b (record (held_of e) { what = d } ∷ map held_of es) (held_of e ∷ settle_held x d (map held_of es))) (sym (other_way e.0.items x ∙ p))

pub settle-none : (x : List ℕ) (d : Declared) (es : List (Vec ℕ Global × Declaration)) → lookup (is_named x) es ≡ None → map held_of es ≡ settle_held x d (map held_of es)
settle-none x d [] h = refl
settle-none x d (e ∷ es) h = by (bytes_eq x e.0.items) refl h (settle-none x d es)
  where
    by : (b : Bool) → bytes_eq x e.0.items ≡ b → cond b (Some e.1) (lookup (is_named x) es) ≡ None
        → (lookup (is_named x) es ≡ None → map held_of es ≡ settle_held x d (map held_of es))
        → held_of e ∷ map held_of es ≡ cond (bytes_eq e.0.items x) (record (held_of e) { what = d } ∷ map held_of es) (held_of e ∷ settle_held x d (map held_of es))
    by true p q rest = absurd (cc)
    by false p q rest =
        ap (λ (hs : List Held). held_of e ∷ hs) (rest q)
        ∙ ap (λ (b : Bool). cond b (record (held_of e) { what = d } ∷ map held_of es) (held_of e ∷ settle_held x d (map held_of es))) (sym (other_way e.0.items x ∙ p))

-- ---- open scopes

-- the last one is set
pub last-set : (change : List Held → List Held) (n : ℕ) (ss : List Scope) (y d : Scope) → length ss ≡ suc n → held y ≡ change (held (get_or ss n d))
    → map held (slice_set ss n y) ≡ last_with change (map held ss)
last-set change n [] y d e h = absurd (omega arith)
last-set change zero (s ∷ []) y d e h = ap (λ (hs : List Held). hs ∷ []) h
last-set change zero (s ∷ r ∷ ss) y d e h = absurd (omega arith)
last-set change (suc n) (s ∷ []) y d e h = absurd (omega arith)
last-set change (suc n) (s ∷ r ∷ ss) y d e h = ap (λ (hs : List (List Held)). held s ∷ hs) (last-set change n (r ∷ ss) y d (omega arith) h)

pub last-get : (n : ℕ) (ss : List Scope) (d : Scope) → length ss ≡ suc n → last_of (map held ss) ≡ held (get_or ss n d)
last-get n [] d e = absurd (omega arith)
last-get zero (s ∷ []) d e = refl
last-get zero (s ∷ r ∷ ss) d e = absurd (omega arith)
last-get (suc n) (s ∷ []) d e = absurd (omega arith)
last-get (suc n) (s ∷ r ∷ ss) d e = last-get n (r ∷ ss) d (omega arith)

-- the same, by the index that the code computes
pub last-set-at : (change : List Held → List Held) (ss : List Scope) (m : ℕ) (y d : Scope) → 0 < length (map held ss) → m ≡ length ss → d ≡ get_or ss (m - 1) d
    → held y ≡ change (held d) → map held (slice_set ss (m - 1) y) ≡ last_with change (map held ss)
last-set-at change [] m y d k e a h = absurd (omega arith)
last-set-at change (s ∷ ss) m y d k e a h = last-set change (m - 1) (s ∷ ss) y d (omega arith) (h ∙ ap (λ (u : Scope). change (held u)) a)

pub last-get-at : (ss : List Scope) (m : ℕ) (d : Scope) → 0 < length (map held ss) → m ≡ length ss → d ≡ get_or ss (m - 1) d → held d ≡ last_of (map held ss)
last-get-at [] m d k e a = absurd (omega arith)
last-get-at (s ∷ ss) m d k e a = ap held a ∙ sym (last-get (m - 1) (s ∷ ss) d (omega arith))

pub last-kept-at : (ss : List Scope) (m : ℕ) (y d : Scope) → 0 < length (map held ss) → m ≡ length ss → d ≡ get_or ss (m - 1) d
    → held y ≡ held d → map held (slice_set ss (m - 1) y) ≡ map held ss
last-kept-at ss m y d k e a h = last-set-at (λ (hs : List Held). hs) ss m y d k e a h ∙ unchanged (map held ss)
  where
    unchanged : (sss : List (List Held)) → last_with (λ (hs : List Held). hs) sss ≡ sss
    unchanged [] = refl
    unchanged (s ∷ []) = refl
    unchanged (s ∷ r ∷ rest) = ap (λ (hss : List (List Held)). s ∷ hss) (unchanged (r ∷ rest))

-- the last one is closed
pub without-last : (ss : List Scope) → map held (take (length ss - 1) ss) ≡ without_innermost (map held ss)
without-last [] = refl
without-last (s ∷ []) = refl
without-last (s ∷ r ∷ ss) =
    let e : length (s ∷ r ∷ ss) - 1 ≡ suc (length (r ∷ ss) - 1) = omega arith in
    ap (λ (n : ℕ). map held (take n (s ∷ r ∷ ss))) e ∙ ap (λ (hs : List (List Held)). held s ∷ hs) (without-last (r ∷ ss))

-- past scopes that don't have a name, the next one decides
pub seek-step : (x : List ℕ) (i : ℕ) (ss : List Scope) (d : Scope) → i < length ss → seek x (map held (drop (suc i) ss)) ≡ None
    → seek x (map held (drop i ss)) ≡ what_in x (held (get_or ss i d))
seek-step x i [] d h e = absurd (omega arith)
seek-step x zero (s ∷ ss) d h e = ap (λ (o : Option Declared). first_of o (what_in x (held s))) e
seek-step x (suc i) (s ∷ ss) d h e = seek-step x i ss d (omega arith) e

pub seek-down : (x : List ℕ) (i : ℕ) (ss : List Scope) (d : Scope) → 0 < i → i ≤ length ss → seek x (map held (drop i ss)) ≡ None
    → seek x (map held (drop (i - 1) ss)) ≡ what_in x (held (get_or ss (i - 1) d))
seek-down x zero ss d k h e = absurd (omega arith)
seek-down x (suc i) ss d k h e =
    let less : suc i - 1 ≡ i = omega arith in
    subst (λ (n : ℕ). seek x (map held (drop n ss)) ≡ what_in x (held (get_or ss n d))) (sym less) (seek-step x i ss d (omega arith) e)

pub seek-found : (x : List ℕ) (i : ℕ) (ss : List Scope) (d : Declared) → seek x (map held (drop i ss)) ≡ Some d → seek x (map held ss) ≡ Some d
seek-found x zero ss d h = h
seek-found x (suc i) [] d h = h
seek-found x (suc i) (s ∷ ss) d h = ap (λ (o : Option Declared). first_of o (what_in x (held s))) (seek-found x i ss d h)

pub seek-past : (x : List ℕ) (n : ℕ) (ss : List Scope) → n ≡ length ss → seek x (map held (drop n ss)) ≡ None
seek-past x n [] e = ap (λ (m : ℕ). seek x (map held (drop m []))) e
seek-past x zero (s ∷ ss) e = absurd (omega arith)
seek-past x (suc n) (s ∷ ss) e = seek-past x n ss (omega arith)

-- ---- packages

abbrev pub binds_or : Option Scope → List Held
binds_or None = []
binds_or (Some s) = held s

pub held_at-lookup : (path : List ℕ) (es : List (Vec ℕ Global × Scope)) → binds_or (lookup (is_named path) es) ≡ held_at path (map held_package es)
held_at-lookup path [] = refl
held_at-lookup path (e ∷ es) = by (bytes_eq path e.0.items) refl (held_at-lookup path es)
  where
    by : (b : Bool) → bytes_eq path e.0.items ≡ b → binds_or (lookup (is_named path) es) ≡ held_at path (map held_package es)
        → binds_or (cond b (Some e.1) (lookup (is_named path) es)) ≡ cond (bytes_eq e.0.items path) (held e.1) (held_at path (map held_package es))
    by true p rest = ap (λ (b : Bool). cond b (held e.1) (held_at path (map held_package es))) (sym (other_way e.0.items path ∙ p))
    by false p rest = rest ∙ ap (λ (b : Bool). cond b (held e.1) (held_at path (map held_package es))) (sym (other_way e.0.items path ∙ p))

pub package-set : (change : List Held → List Held) (path : List ℕ) (es : List (Vec ℕ Global × Scope)) (s y : Scope) → lookup (is_named path) es ≡ Some s
    → held y ≡ change (held s) → map held_package (set_value (is_named path) es y) ≡ package_with change path (map held_package es)
package-set change path [] s y h k = refl
package-set change path (e ∷ es) s y h k = by (bytes_eq path e.0.items) refl h (λ q. package-set change path es s y q k)
  where
    by : (b : Bool) → bytes_eq path e.0.items ≡ b → cond b (Some e.1) (lookup (is_named path) es) ≡ Some s
        → (lookup (is_named path) es ≡ Some s → map held_package (set_value (is_named path) es y) ≡ package_with change path (map held_package es))
        → map held_package (cond b ((e.0, y) ∷ es) (e ∷ set_value (is_named path) es y))
        ≡ cond (bytes_eq e.0.items path) (record (held_package e) { binds = change (held e.1) } ∷ map held_package es) (held_package e ∷ package_with change path (map held_package es))
    by true p q rest =
        let same : s ≡ e.1 = cc in
        ap (λ (hs : List Held). record (held_package e) { binds = hs } ∷ map held_package es) (k ∙ ap (λ (u : Scope). change (held u)) same)
        ∙ ap (λ (b : Bool). cond b (record (held_package e) { binds = change (held e.1) } ∷ map held_package es) (held_package e ∷ package_with change path (map held_package es))) (sym (other_way e.0.items path ∙ p))
    by false p q rest =
        ap (λ (ps : List HeldPackage). held_package e ∷ ps) (rest q)
        ∙ ap (λ (b : Bool). cond b (record (held_package e) { binds = change (held e.1) } ∷ map held_package es) (held_package e ∷ package_with change path (map held_package es))) (sym (other_way e.0.items path ∙ p))

pub package-none : (change : List Held → List Held) (path : List ℕ) (es : List (Vec ℕ Global × Scope)) → lookup (is_named path) es ≡ None
    → map held_package es ≡ package_with change path (map held_package es)
package-none change path [] h = refl
package-none change path (e ∷ es) h = by (bytes_eq path e.0.items) refl h (package-none change path es)
  where
    by : (b : Bool) → bytes_eq path e.0.items ≡ b → cond b (Some e.1) (lookup (is_named path) es) ≡ None
        → (lookup (is_named path) es ≡ None → map held_package es ≡ package_with change path (map held_package es))
        → held_package e ∷ map held_package es
        ≡ cond (bytes_eq e.0.items path) (record (held_package e) { binds = change (held e.1) } ∷ map held_package es) (held_package e ∷ package_with change path (map held_package es))
    by true p q rest = absurd (cc)
    by false p q rest =
        ap (λ (ps : List HeldPackage). held_package e ∷ ps) (rest q)
        ∙ ap (λ (b : Bool). cond b (record (held_package e) { binds = change (held e.1) } ∷ map held_package es) (held_package e ∷ package_with change path (map held_package es))) (sym (other_way e.0.items path ∙ p))

pub has-lookup : (path : List ℕ) (es : List (Vec ℕ Global × Scope)) → is_some (lookup (is_named path) es) ≡ has_held path (map held_package es)
has-lookup path [] = refl
has-lookup path (e ∷ es) = by (bytes_eq path e.0.items) refl (has-lookup path es)
  where
    by : (b : Bool) → bytes_eq path e.0.items ≡ b → is_some (lookup (is_named path) es) ≡ has_held path (map held_package es)
        → is_some (cond b (Some e.1) (lookup (is_named path) es)) ≡ cond (bytes_eq e.0.items path) true (has_held path (map held_package es))
    by true p rest = ap (λ (b : Bool). cond b true (has_held path (map held_package es))) (sym (other_way e.0.items path ∙ p))
    by false p rest = rest ∙ ap (λ (b : Bool). cond b true (has_held path (map held_package es))) (sym (other_way e.0.items path ∙ p))

-- a path that isn't there goes last
pub enter-new : (es : List (Vec ℕ Global × Scope)) (k : Vec ℕ Global) (v : Scope) → is_some (lookup (is_named k.items) es) ≡ false
    → map held_package (insert_entry same_key es k v) ≡ map held_package es ++ held_package (k, v) ∷ []
enter-new [] k v h = refl
enter-new (e ∷ es) k v h = by (bytes_eq k.items e.0.items) refl h (enter-new es k v)
  where
    by : (b : Bool) → bytes_eq k.items e.0.items ≡ b → is_some (cond b (Some e.1) (lookup (is_named k.items) es)) ≡ false
        → (is_some (lookup (is_named k.items) es) ≡ false → map held_package (insert_entry same_key es k v) ≡ map held_package es ++ held_package (k, v) ∷ [])
        → map held_package (cond b ((e.0, v) ∷ es) (e ∷ insert_entry same_key es k v)) ≡ held_package e ∷ map held_package es ++ held_package (k, v) ∷ []
    by true p q rest = absurd (true≢false q)
    by false p q rest = ap (λ (ps : List HeldPackage). held_package e ∷ ps) (rest q)

pub entered-old : (path : List ℕ) (es : List (Vec ℕ Global × Scope)) → is_some (lookup (is_named path) es) ≡ true → map held_package es ≡ enter_held path (map held_package es)
entered-old path es h =
    sym (ap (λ (b : Bool). cond b (map held_package es) (map held_package es ++ record { path = path; binds = [] } ∷ [])) (sym (has-lookup path es) ∙ h))

pub entered-new : (path : List ℕ) (es : List (Vec ℕ Global × Scope)) (k : Vec ℕ Global) (v : Scope) → k.items ≡ path → held v ≡ [] → is_some (lookup (is_named path) es) ≡ false
    → map held_package (insert_entry same_key es k v) ≡ enter_held path (map held_package es)
entered-new path es k v e empty h =
    enter-new es k v (ap (λ (x : List ℕ). is_some (lookup (is_named x) es)) e ∙ h)
    ∙ ap (λ (x : List ℕ). map held_package es ++ record { path = x; binds = held v } ∷ []) e
    ∙ ap (λ (hs : List Held). map held_package es ++ record { path = path; binds = hs } ∷ []) empty
    ∙ sym (ap (λ (b : Bool). cond b (map held_package es) (map held_package es ++ record { path = path; binds = [] } ∷ [])) (sym (has-lookup path es) ∙ h))
