-- The first entry of a key.
use Rattle.std.proofs.Common.{refl, sym, ap, ◌∙◌, arith}
use Rattle.std.specs.Prelude.{◌≡◌, ◌<◌, ◌≤◌, ℕ, suc, ◌+◌, List, [], ◌∷◌, ◌++◌, Bool, true, false, if◌then◌else◌, Option, Some, None, length, take, drop, slice_get, slice_set, option_map, option_and_then}
use Rattle.std.proofs.lemmas.List.{drop_all, take_all, append_assoc, append-nil}
use Rattle.go_type.specs.Tree.{Ty}
use Rattle.go_type.specs.Named.{NamedTy}
use Rattle.go_core.specs.Memory.{Value, Entry, MapState}
use Rattle.go_core.specs.Equality.{same_key}
use Rattle.go_core.specs.StepMaps.{looked_up, replaced, without, with_entry, with_pairs, put_entry}
use Rattle.go_slices.specs.MapsFound.{IsAbsent, IsFirst}
use Rattle.go_slices.proofs.MapsListLemmas.{set_apart}

module _ (ns : List NamedTy) (t : Ty) (key : Value) where
  -- the entries before a place have other keys
  pub record Passed (all : List Entry) (i : ℕ) : Type 0 where
    pub looked : looked_up ns t key (drop i all) ≡ looked_up ns t key all
    pub set : (value : Value) → take i all ++ replaced ns t key value (drop i all) ≡ replaced ns t key value all
    pub taken : take i all ++ without ns t key (drop i all) ≡ without ns t key all

  pub passed_none : (all : List Entry) → Passed all 0
  passed_none all = record { looked = refl; set = λ value. refl; taken = refl }

  module _ (all : List Entry) (i : ℕ) (e : Entry) (rest : List Entry) (s : drop i all ≡ e ∷ rest) (p : Passed all i) where
    -- an entry with another key
    pub passed_more : (same_key ns t e.key key ≡ false) → rest ≡ drop (i + 1) all → take (i + 1) all ≡ take i all ++ e ∷ [] → Passed all (i + 1)
    passed_more b r g = record {
      looked =
          ap (looked_up ns t key) (sym r)
          ∙ sym (ap (λ (c : Bool). if c then Some e.value else looked_up ns t key rest) b)
          ∙ sym (ap (looked_up ns t key) s)
          ∙ p.looked;
      set = λ value.
          let more = replaced ns t key value rest in
          ap (λ (es : List Entry). take (i + 1) all ++ replaced ns t key value es) (sym r)
          ∙ ap (λ (es : List Entry). es ++ more) g
          ∙ append_assoc (take i all) (e ∷ []) more
          ∙ sym (ap (λ (c : Bool). take i all ++ (if c then record e { value = value } ∷ rest else e ∷ more)) b)
          ∙ sym (ap (λ (es : List Entry). take i all ++ replaced ns t key value es) s)
          ∙ p.set value;
      taken =
          let more = without ns t key rest in
          ap (λ (es : List Entry). take (i + 1) all ++ without ns t key es) (sym r)
          ∙ ap (λ (es : List Entry). es ++ more) g
          ∙ append_assoc (take i all) (e ∷ []) more
          ∙ sym (ap (λ (c : Bool). take i all ++ (if c then rest else e ∷ more)) b)
          ∙ sym (ap (λ (es : List Entry). take i all ++ without ns t key es) s)
          ∙ p.taken;
    }

    -- the entry with the key
    pub first_at : (same_key ns t e.key key ≡ true) → rest ≡ drop (i + 1) all → i < length all → slice_get all i ≡ Some e → IsFirst ns t key all i
    first_at b r h g =
        let n : suc i ≡ i + 1 = omega arith in
        record {
          entry = e;
          there = g;
          looked =
              sym p.looked
              ∙ ap (looked_up ns t key) s
              ∙ ap (λ (c : Bool). if c then Some e.value else looked_up ns t key rest) b;
          set = λ value.
              sym (p.set value)
              ∙ ap (λ (es : List Entry). take i all ++ replaced ns t key value es) s
              ∙ ap (λ (c : Bool). take i all ++ (if c then record e { value = value } ∷ rest else e ∷ replaced ns t key value rest)) b
              ∙ ap (λ (es : List Entry). take i all ++ record e { value = value } ∷ es) r
              ∙ sym (set_apart all i (record e { value = value }) h);
          taken =
              sym p.taken
              ∙ ap (λ (es : List Entry). take i all ++ without ns t key es) s
              ∙ ap (λ (c : Bool). take i all ++ (if c then rest else e ∷ without ns t key rest)) b
              ∙ ap (λ (es : List Entry). take i all ++ es) r
              ∙ sym (ap (λ (k : ℕ). take i all ++ drop k all) n);
        }

  pub absent : (all : List Entry) (i : ℕ) → length all ≤ i → Passed all i → IsAbsent ns t key all
  absent all i h p = record {
    looked = sym p.looked ∙ ap (looked_up ns t key) (drop_all i all h);
    kept =
        sym p.taken
        ∙ ap (λ (es : List Entry). take i all ++ without ns t key es) (drop_all i all h)
        ∙ append-nil (take i all)
        ∙ take_all i all h;
  }

  -- ---- what a store makes of a map, by whether the key has an entry

  pub found_at : (all : List Entry) (i : ℕ) (e : Entry) → IsFirst ns t key all i → slice_get all i ≡ Some e → Some e.value ≡ looked_up ns t key all
  found_at all i e p g = ap (option_map (λ (x : Entry). x.value)) (sym g ∙ p.there) ∙ sym p.looked

  same_entry : (all : List Entry) (i : ℕ) (e : Entry) (p : IsFirst ns t key all i) → slice_get all i ≡ Some e → p.entry ≡ e
  same_entry all i e p g = let h : Some p.entry ≡ Some e = sym p.there ∙ g in cc

  pub entry_put : (value : Value) (s : MapState) (i : ℕ) (e : Entry) → IsFirst ns t key s.entries i → slice_get s.entries i ≡ Some e
      → with_entry ns t key value s ≡ Some (record s { entries = slice_set s.entries i (record e { value = value }) })
  entry_put value s i e p g =
      ap (put_entry ns t key value s) p.looked
      ∙ ap (λ (es : List Entry). Some (record s { entries = es })) (p.set value)
      ∙ ap (λ (x : Entry). Some (record s { entries = slice_set s.entries i (record x { value = value }) })) (same_entry s.entries i e p g)

-- ---- keys and values by turns

module _ (ns : List NamedTy) (t : Ty) (all : Option MapState) where
  pub pairs_step : (vs rest : List Value) (a b : Value) (s new : MapState) → vs ≡ a ∷ b ∷ rest → with_entry ns t a b s ≡ Some new → with_pairs ns t vs s ≡ all → with_pairs ns t rest new ≡ all
  pairs_step vs rest a b s new e h k =
      sym (ap (option_and_then (with_pairs ns t rest)) h) ∙ sym (ap (λ (us : List Value). with_pairs ns t us s) e) ∙ k

  pub pairs_stop : (vs rest : List Value) (a b : Value) (s : MapState) → vs ≡ a ∷ b ∷ rest → with_entry ns t a b s ≡ None → with_pairs ns t vs s ≡ all → all ≡ None
  pairs_stop vs rest a b s e h k =
      sym k ∙ ap (λ (us : List Value). with_pairs ns t us s) e ∙ ap (option_and_then (with_pairs ns t rest)) h

  pub pairs_end : (vs : List Value) (s : MapState) → length vs < 2 → with_pairs ns t vs s ≡ all → all ≡ Some s
  pairs_end [] s h k = sym k
  pairs_end (v ∷ []) s h k = sym k
  pairs_end (v ∷ u ∷ vs) s h k = absurd (omega (arith, h))
