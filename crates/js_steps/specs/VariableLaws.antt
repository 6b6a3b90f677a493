-- Variables that are set, by their slots.
use Rattle.std.proofs.Common.{◌≡◌, refl, ap, sym, ◌∙◌, subst, ℕ, List, [], ◌∷◌, Option, Some, None, Bool, true, false, cond, bytes_eq, slice_set, option_map, true≢false}
use Rattle.std.proofs.lemmas.List.{map-set}
use Rattle.js_tree.specs.Script.{Name, ScriptTree}
use Rattle.js_tree.specs.Value.{Value, lookup, with_entry}
use Rattle.js_code.specs.declared.slots.place.Place.{Place}
use Rattle.js_code.specs.declared.slots.place.Place.TheVariants.{Local, Global, Nowhere}
use Rattle.js_code.specs.Names.{is_among, distinct, index_in, global_names}
use Rattle.js_code.specs.Places.{Table, placed, target_of}
use Rattle.js_code.specs.Slots.{slots_of, with_slot, OnlyGlobals}
use Rattle.js_code.specs.NameLaws.{same_name, distinct_once, index-is_among, is_among-with_names}
use Rattle.js_code.specs.SlotLaws.{sets_slot}
use Rattle.js_value.specs.HeapSeen.{value_of}
use Rattle.js_value.specs.declared.heap.value.Value as held
use Rattle.js_simple.specs.Seen.{slots_in}

-- a slot that is set is a variable that is set
pub slot_set : (names : List Name) (x : Name) (i : ℕ) (v : held.Value) (entries : List (Name × Value)) (slots : List (Option held.Value))
    → index_in (distinct names) x ≡ Some i → slots_of (distinct names) entries ≡ slots_in slots
    → slots_of (distinct names) (with_entry x (value_of v) entries) ≡ slots_in (slice_set slots i (Some v))
slot_set names x i v entries slots q h =
    sets_slot (distinct names) x (value_of v) entries (distinct_once names)
    ∙ ap (λ (o : Option ℕ). with_slot o (value_of v) (slots_of (distinct names) entries)) q
    ∙ ap (λ (z : List (Option Value)). slice_set z i (Some (value_of v))) h
    ∙ sym (map-set (option_map value_of) slots i (Some v))

-- a variable without a slot changes none
pub slot_none : (names : List Name) (x : Name) (v : Value) (entries : List (Name × Value)) (slots : List (Option held.Value))
    → index_in (distinct names) x ≡ None → slots_of (distinct names) entries ≡ slots_in slots
    → slots_of (distinct names) (with_entry x v entries) ≡ slots_in slots
slot_none names x v entries slots q h =
    sets_slot (distinct names) x v entries (distinct_once names)
    ∙ ap (λ (o : Option ℕ). with_slot o v (slots_of (distinct names) entries)) q ∙ h

abbrev slot_in : Place → ℕ
slot_in (Local i) = i
slot_in (Global i) = i
slot_in _ = 0

-- the local that an assignment sets
pub target_local : (t : Table) (x : Name) (i : ℕ) → Local i ≡ target_of t x → index_in t.locals x ≡ Some i
target_local t x i q = by (index_in t.locals x) (index_in t.globals x) q
  where
    by : (l g : Option ℕ) → Local i ≡ placed l Local (placed g Global Nowhere) → l ≡ Some i
    by (Some j) g q = ap Some (sym (ap slot_in q))
    by None (Some j) q = cc
    by None None q = cc

-- the top-level variable that it sets
pub target_global : (t : Table) (x : Name) (i : ℕ) → Global i ≡ target_of t x → index_in t.globals x ≡ Some i
target_global t x i q = by (index_in t.locals x) (index_in t.globals x) q
  where
    by : (l g : Option ℕ) → Global i ≡ placed l Local (placed g Global Nowhere) → g ≡ Some i
    by (Some j) g q = cc
    by None (Some j) q = ap Some (sym (ap slot_in q))
    by None None q = cc

-- a look-up of another name
lookup_other : (x y : Name) (v : Value) (es : List (Name × Value)) → bytes_eq y x ≡ false → lookup y (with_entry x v es) ≡ lookup y es
lookup_other x y v [] h = ap (λ (b : Bool). cond b (Some v) None) h
lookup_other x y v (e ∷ es) h = by (bytes_eq x e.0) refl (lookup_other x y v es h)
  where
    by : (b : Bool) → bytes_eq x e.0 ≡ b → lookup y (with_entry x v es) ≡ lookup y es → lookup y (cond b ((x, v) ∷ es) (e ∷ with_entry x v es)) ≡ cond (bytes_eq y e.0) (Some e.1) (lookup y es)
    by true q next =
        let same : x ≡ e.0 = same_name x e.0 q in
        let other : bytes_eq y e.0 ≡ false = subst (λ (z : Name). bytes_eq y z ≡ false) same h in
        ap (λ (b : Bool). cond b (Some v) (lookup y es)) h ∙ sym (ap (λ (b : Bool). cond b (Some e.1) (lookup y es)) other)
    by false q next = ap (λ o. cond (bytes_eq y e.0) (Some e.1) o) next

among_found : (xs : List Name) (x : Name) (i : ℕ) → index_in (distinct xs) x ≡ Some i → is_among xs x ≡ true
among_found xs x i q =
    sym (is_among-with_names [] xs x) ∙ sym (index-is_among (distinct xs) x) ∙ ap is_some_of q
  where
    is_some_of : Option ℕ → Bool
    is_some_of None = false
    is_some_of (Some k) = true

-- only top-level variables stay set at the top
pub only_globals : (script : ScriptTree) (x : Name) (i : ℕ) (v : Value) (globals : List (Name × Value)) → index_in (distinct (global_names script.items)) x ≡ Some i
    → OnlyGlobals script globals → OnlyGlobals script (with_entry x v globals)
only_globals script x i v globals q only = λ y h. lookup_other x y v globals (by y (bytes_eq y x) refl h) ∙ only y h
  where
    by : (y : Name) (b : Bool) → bytes_eq y x ≡ b → is_among (global_names script.items) y ≡ false → b ≡ false
    by y true e h =
        absurd (true≢false (sym (among_found (global_names script.items) x i q) ∙ ap (is_among (global_names script.items)) (sym (same_name y x e)) ∙ h))
    by y false e h = refl
