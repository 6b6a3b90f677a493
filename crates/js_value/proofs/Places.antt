-- Entries by their places.
use Rattle.std.proofs.Common.{arith, ◌≡◌, ◌≤◌, ◌<◌, ◌∙◌, ◌++◌, refl, sym, ap, suc, List, [], ◌∷◌, ℕ, Bool, true, false, cond, not, Option, Some, None, is_some, zero, length, slice_get, slice_set, option_map, bytes_eq, filter}
use Rattle.std.specs.List.{position}
use Rattle.std.proofs.Common.{get_or, ltb, ◌+◌}
use Rattle.std.proofs.lemmas.Bool.{ltb-true, ltb-false}
use Rattle.std.proofs.lemmas.Option.{same_Some, slice_get_read, slice_get_past}
use Rattle.js_tree.specs.Script.{Name}
use Rattle.js_tree.specs.Value.{Value, lookup, with_entry, without_entry}
use Rattle.js_value.specs.declared.value.entries.Entry.{Entry}
use Rattle.js_value.specs.ValueSeen.{str_bytes, value_of, entry_of, entries_of, place_in}

pub lookup_is : (x : Name) (es : List Entry) → lookup x (entries_of es) ≡ option_map (λ e. value_of e.value) (slice_get es (place_in x es))
lookup_is x [] = refl
lookup_is x (e ∷ es) = go (lookup_is x es) (bytes_eq x (str_bytes e.name))
  where
    go : lookup x (entries_of es) ≡ option_map (λ e. value_of e.value) (slice_get es (place_in x es)) → (b : Bool) → cond b (Some (value_of e.value)) (lookup x (entries_of es)) ≡ option_map (λ e. value_of e.value) (slice_get (e ∷ es) (cond (not b) (1 + place_in x es) 0))
    go h true = refl
    go h false = (let k : 1 + place_in x es ≡ suc (place_in x es) = omega arith in rw k h)

pub set_is : (x : Name) (v : Value) (es : List Entry) (e : Entry) → str_bytes e.name ≡ x → value_of e.value ≡ v → place_in x es < length es
    → entries_of (slice_set es (place_in x es) e) ≡ with_entry x v (entries_of es)
set_is x v [] e n w l = absurd (omega arith)
set_is x v (f ∷ es) e n w l = go (set_is x v es e n w) (bytes_eq x (str_bytes f.name)) l
  where
    go : (place_in x es < length es → entries_of (slice_set es (place_in x es) e) ≡ with_entry x v (entries_of es)) → (b : Bool) → cond (not b) (1 + place_in x es) 0 < suc (length es) → entries_of (slice_set (f ∷ es) (cond (not b) (1 + place_in x es) 0) e) ≡ cond b ((x, v) ∷ entries_of es) (entry_of f ∷ with_entry x v (entries_of es))
    go h true l = ap (λ z. (z, value_of e.value) ∷ entries_of es) n ∙ ap (λ z. (x, z) ∷ entries_of es) w
    go h false l = (let k : 1 + place_in x es ≡ suc (place_in x es) = omega arith in rw k (ap (λ z. entry_of f ∷ z) (h (omega arith))))

pub added_is : (x : Name) (v : Value) (es : List Entry) (e : Entry) → str_bytes e.name ≡ x → value_of e.value ≡ v → length es ≤ place_in x es
    → entries_of (es ++ e ∷ []) ≡ with_entry x v (entries_of es)
added_is x v [] e n w l = ap (λ z. (z, value_of e.value) ∷ []) n ∙ ap (λ z. (x, z) ∷ []) w
added_is x v (f ∷ es) e n w l = go (added_is x v es e n w) (bytes_eq x (str_bytes f.name)) l
  where
    go : (length es ≤ place_in x es → entries_of (es ++ e ∷ []) ≡ with_entry x v (entries_of es)) → (b : Bool) → suc (length es) ≤ cond (not b) (1 + place_in x es) 0 → entries_of (f ∷ es ++ e ∷ []) ≡ cond b ((x, v) ∷ entries_of es) (entry_of f ∷ with_entry x v (entries_of es))
    go h true l = absurd (omega arith)
    go h false l = ap (λ z. entry_of f ∷ z) (h (omega arith))

pub without_is : (x : Name) (es : List Entry) → entries_of (filter (λ e. not (bytes_eq x (str_bytes e.name))) es) ≡ without_entry x (entries_of es)
without_is x [] = refl
without_is x (e ∷ es) = go (without_is x es) (bytes_eq x (str_bytes e.name))
  where
    go : entries_of (filter (λ e. not (bytes_eq x (str_bytes e.name))) es) ≡ without_entry x (entries_of es) → (b : Bool) → entries_of (cond (not b) (e ∷ filter (λ e. not (bytes_eq x (str_bytes e.name))) es) (filter (λ e. not (bytes_eq x (str_bytes e.name))) es)) ≡ cond b (without_entry x (entries_of es)) (entry_of e ∷ without_entry x (entries_of es))
    go h true = h
    go h false = ap (λ z. entry_of e ∷ z) h

pub place_found : (x : Name) (es : List Entry) (i : ℕ) → position (λ e. bytes_eq x (str_bytes e.name)) es ≡ Some i → (i ≡ place_in x es) × (i < length es)
place_found x es i h = go (ltb (place_in x es) (length es)) refl h
  where
    go : (b : Bool) → ltb (place_in x es) (length es) ≡ b → cond b (Some (place_in x es)) None ≡ Some i → (i ≡ place_in x es) × (i < length es)
    go true e h =
        let q : place_in x es ≡ i = same_Some (place_in x es) i h in
        (sym q, omega (arith, ltb-true (place_in x es) (length es) e, q))
    go false e h = cc

pub place_none : (x : Name) (es : List Entry) → position (λ e. bytes_eq x (str_bytes e.name)) es ≡ None → length es ≤ place_in x es
place_none x es h = go (ltb (place_in x es) (length es)) refl h
  where
    go : (b : Bool) → ltb (place_in x es) (length es) ≡ b → cond b (Some (place_in x es)) None ≡ None → length es ≤ place_in x es
    go true e h = cc
    go false e h = ltb-false (place_in x es) (length es) e

pub lookup_found : (x : Name) (es : List Entry) (i : ℕ) (e : Entry) → position (λ e. bytes_eq x (str_bytes e.name)) es ≡ Some i → e ≡ get_or es i e → lookup x (entries_of es) ≡ Some (value_of e.value)
lookup_found x es i e h g =
    let p = place_found x es i h in
    lookup_is x es ∙ ap (λ k. option_map (λ e. value_of e.value) (slice_get es k)) (sym p.0) ∙ ap (option_map (λ e. value_of e.value)) (slice_get_read es (length es) i e refl p.1 g)

pub lookup_none : (x : Name) (es : List Entry) → position (λ e. bytes_eq x (str_bytes e.name)) es ≡ None → lookup x (entries_of es) ≡ None
lookup_none x es h =
    lookup_is x es ∙ ap (option_map (λ e. value_of e.value)) (slice_get_past es (place_in x es) (place_none x es h))

some_there : (es : List Entry) (k : ℕ) → k < length es → is_some (option_map (λ e. value_of e.value) (slice_get es k)) ≡ true
some_there [] k l = absurd (omega arith)
some_there (e ∷ es) zero l = refl
some_there (e ∷ es) (suc k) l = some_there es k (omega arith)

pub has_is : (x : Name) (es : List Entry) (r : Option ℕ) → r ≡ position (λ e. bytes_eq x (str_bytes e.name)) es → is_some r ≡ is_some (lookup x (entries_of es))
has_is x es None h = ap is_some (sym (lookup_none x es (sym h)))
has_is x es (Some i) h =
    let p = place_found x es i (sym h) in
    sym (some_there es (place_in x es) (omega (arith, p.0, p.1))) ∙ ap is_some (sym (lookup_is x es))

pub set_found : (x : Name) (v : Value) (es : List Entry) (i : ℕ) (e : Entry) → position (λ e. bytes_eq x (str_bytes e.name)) es ≡ Some i → str_bytes e.name ≡ x → value_of e.value ≡ v
    → entries_of (slice_set es i e) ≡ with_entry x v (entries_of es)
set_found x v es i e h n w =
    let p = place_found x es i h in
    ap (λ k. entries_of (slice_set es k e)) p.0 ∙ set_is x v es e n w (omega (arith, p.0, p.1))

pub set_added : (x : Name) (v : Value) (es : List Entry) (e : Entry) → position (λ e. bytes_eq x (str_bytes e.name)) es ≡ None → str_bytes e.name ≡ x → value_of e.value ≡ v
    → entries_of (es ++ e ∷ []) ≡ with_entry x v (entries_of es)
set_added x v es e h n w = added_is x v es e n w (place_none x es h)
