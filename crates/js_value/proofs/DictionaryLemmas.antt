-- Entries by their names.
use Rattle.std.proofs.Common.{arith, ◌≡◌, ◌∙◌, refl, sym, ap, ℕ, List, [], ◌∷◌, Option, Some, None, Bool, true, false, cond, bytes_eq, option_map, true≢false}
use Rattle.std.specs.Borrow.{Bor}
use Rattle.std.specs.Map as map
use Rattle.std.proofs.lemmas.Slice.Eq.{bytes_eq-Decides}
use Rattle.indexmap.specs.IndexMap.{insert_entry}
use Rattle.js_tree.specs.Script.{Name}
use Rattle.js_tree.specs.Value.{Value, lookup, with_entry, without_entry}
use Rattle.js_value.specs.declared.heap.value.Value as held
use Rattle.js_value.specs.HeapSeen.{value_of, entry_of, entries_of}

-- names that the test finds equal are equal
same_name : (x y : Name) → bytes_eq x y ≡ true → x ≡ y
same_name x y h = grind (arith, bytes_eq-Decides)

-- the value under a name
pub lookup_is : (test : Bor (List ℕ) → Bool) (x : Name) → ((k : Bor (List ℕ)) → test k ≡ bytes_eq x k.now) → (es : List (Bor (List ℕ) × held.Value))
    → option_map value_of (map.lookup test es) ≡ lookup x (entries_of es)
lookup_is test x same [] = refl
lookup_is test x same (e ∷ es) = by (test e.0) (bytes_eq x e.0.now) (same e.0) (lookup_is test x same es)
  where
    by : (b c : Bool) → b ≡ c → option_map value_of (map.lookup test es) ≡ lookup x (entries_of es)
        → option_map value_of (cond b (Some e.1) (map.lookup test es)) ≡ cond c (Some (value_of e.1)) (lookup x (entries_of es))
    by true true q h = refl
    by true false q h = absurd (true≢false q)
    by false true q h = absurd (true≢false (sym q))
    by false false q h = h

-- one more value under a name, or another one
pub insert_is : (eq : Bor (List ℕ) → Bor (List ℕ) → Bool) (k : Bor (List ℕ)) → ((j : Bor (List ℕ)) → eq k j ≡ bytes_eq k.now j.now) → (v : held.Value) (es : List (Bor (List ℕ) × held.Value))
    → entries_of (insert_entry eq es k v) ≡ with_entry k.now (value_of v) (entries_of es)
insert_is eq k same v [] = refl
insert_is eq k same v (e ∷ es) = by (eq k e.0) (bytes_eq k.now e.0.now) (same e.0) refl (insert_is eq k same v es)
  where
    by : (b c : Bool) → b ≡ c → bytes_eq k.now e.0.now ≡ c → entries_of (insert_entry eq es k v) ≡ with_entry k.now (value_of v) (entries_of es)
        → entries_of (cond b ((e.0, v) ∷ es) (e ∷ insert_entry eq es k v)) ≡ cond c ((k.now, value_of v) ∷ entries_of es) (entry_of e ∷ with_entry k.now (value_of v) (entries_of es))
    by true true q p h = ap (λ (x : Name). (x, value_of v) ∷ entries_of es) (sym (same_name k.now e.0.now p))
    by true false q p h = absurd (true≢false q)
    by false true q p h = absurd (true≢false (sym q))
    by false false q p h = ap (λ z. entry_of e ∷ z) h

-- without a name that isn't there
without_none : (test : Bor (List ℕ) → Bool) (x : Name) → ((k : Bor (List ℕ)) → test k ≡ bytes_eq x k.now) → (es : List (Bor (List ℕ) × held.Value))
    → map.lookup test es ≡ None → entries_of es ≡ without_entry x (entries_of es)
without_none test x same [] n = refl
without_none test x same (e ∷ es) n = by (test e.0) (bytes_eq x e.0.now) (same e.0) n (without_none test x same es)
  where
    by : (b c : Bool) → b ≡ c → cond b (Some e.1) (map.lookup test es) ≡ None → (map.lookup test es ≡ None → entries_of es ≡ without_entry x (entries_of es))
        → entry_of e ∷ entries_of es ≡ cond c (without_entry x (entries_of es)) (entry_of e ∷ without_entry x (entries_of es))
    by true true q n h = cc
    by true false q n h = absurd (true≢false q)
    by false true q n h = absurd (true≢false (sym q))
    by false false q n h = ap (λ z. entry_of e ∷ z) (h n)

-- without the first entry under a name, where no other is under it
pub remove_is : (test : Bor (List ℕ) → Bool) (x : Name) → ((k : Bor (List ℕ)) → test k ≡ bytes_eq x k.now) → (es : List (Bor (List ℕ) × held.Value))
    → map.lookup test (map.remove_entry test es) ≡ None → entries_of (map.remove_entry test es) ≡ without_entry x (entries_of es)
remove_is test x same [] n = refl
remove_is test x same (e ∷ es) n = by (test e.0) (bytes_eq x e.0.now) refl (same e.0) n (remove_is test x same es)
  where
    by : (b c : Bool) → test e.0 ≡ b → b ≡ c → map.lookup test (cond b es (e ∷ map.remove_entry test es)) ≡ None
        → (map.lookup test (map.remove_entry test es) ≡ None → entries_of (map.remove_entry test es) ≡ without_entry x (entries_of es))
        → entries_of (cond b es (e ∷ map.remove_entry test es)) ≡ cond c (without_entry x (entries_of es)) (entry_of e ∷ without_entry x (entries_of es))
    by true true p q n h = without_none test x same es n
    by true false p q n h = absurd (true≢false q)
    by false true p q n h = absurd (true≢false (sym q))
    by false false p q n h = ap (λ z. entry_of e ∷ z) (h (sym (ap (λ (b : Bool). cond b (Some e.1) (map.lookup test (map.remove_entry test es))) p) ∙ n))
