-- Rows of methods, lists of types and methods of an interface, one after another.
use Rattle.std.proofs.Common.{refl, sym, ap, ◌∙◌, arith}
use Rattle.std.specs.Prelude.{◌≡◌, ◌≤◌, ℕ, suc, ◌+◌, List, [], ◌∷◌, Bool, true, false, ◌&&◌, if◌then◌else◌, Some, None, length, drop}
use Rattle.std.proofs.lemmas.List.{drop_all}
use Rattle.go_type.specs.Tree.{Ty}
use Rattle.go_type.specs.Levels.{tree_of, trees_of, specs_of}
use Rattle.go_type.specs.declared.types.TypeId.{TypeId}
use Rattle.go_type.specs.declared.types.MethodSpec.{MethodSpec}
use Rattle.go_core.specs.CoreTree.{CoreProgram, MethodName, MethodRow}
use Rattle.go_core.specs.SameType.{same_type, same_types}
use Rattle.go_core.specs.StepInterfaces.{is_row, row_from, row_of, implements, has_signature, func_of_row}

-- ---- rows

module _ (n : MethodName) (all : List MethodRow) where
  pub row_step : (i : ℕ) (r : MethodRow) → drop i all ≡ r ∷ drop (i + 1) all → is_row n r ≡ false
      → row_from i n (drop i all) ≡ row_from 0 n all → row_from (i + 1) n (drop (i + 1) all) ≡ row_from 0 n all
  row_step i r d b k =
      let s : i + 1 ≡ suc i = omega arith in
      ap (λ (j : ℕ). row_from j n (drop (i + 1) all)) s
      ∙ sym (ap (λ (c : Bool). if c then Some i else row_from (suc i) n (drop (i + 1) all)) b)
      ∙ sym (ap (row_from i n) d)
      ∙ k

  pub row_found : (i : ℕ) (r : MethodRow) → drop i all ≡ r ∷ drop (i + 1) all → is_row n r ≡ true
      → row_from i n (drop i all) ≡ row_from 0 n all → Some i ≡ row_from 0 n all
  row_found i r d b k =
      sym (ap (λ (c : Bool). if c then Some i else row_from (suc i) n (drop (i + 1) all)) b)
      ∙ sym (ap (row_from i n) d)
      ∙ k

  pub row_none : (i : ℕ) → length all ≤ i → row_from i n (drop i all) ≡ row_from 0 n all → None ≡ row_from 0 n all
  row_none i h k = sym (ap (row_from i n) (drop_all i all h)) ∙ k

-- ---- lists of types

module _ (ts : List Ty) where
  pub types_step : (xs ys : List TypeId) (i : ℕ) (x y : TypeId) (all : Bool) → drop i xs ≡ x ∷ drop (i + 1) xs → drop i ys ≡ y ∷ drop (i + 1) ys
      → same_type (tree_of ts x) (tree_of ts y) ≡ true
      → same_types (trees_of ts (drop i xs)) (trees_of ts (drop i ys)) ≡ all → same_types (trees_of ts (drop (i + 1) xs)) (trees_of ts (drop (i + 1) ys)) ≡ all
  types_step xs ys i x y all d e b k =
      let more = same_types (trees_of ts (drop (i + 1) xs)) (trees_of ts (drop (i + 1) ys)) in
      sym (ap (λ (c : Bool). c && more) b)
      ∙ sym (ap (λ (us : List TypeId). same_types (trees_of ts (x ∷ drop (i + 1) xs)) (trees_of ts us)) e)
      ∙ sym (ap (λ (us : List TypeId). same_types (trees_of ts us) (trees_of ts (drop i ys))) d)
      ∙ k

  pub types_differ : (xs ys : List TypeId) (i : ℕ) (x y : TypeId) (all : Bool) → drop i xs ≡ x ∷ drop (i + 1) xs → drop i ys ≡ y ∷ drop (i + 1) ys
      → same_type (tree_of ts x) (tree_of ts y) ≡ false
      → same_types (trees_of ts (drop i xs)) (trees_of ts (drop i ys)) ≡ all → false ≡ all
  types_differ xs ys i x y all d e b k =
      let more = same_types (trees_of ts (drop (i + 1) xs)) (trees_of ts (drop (i + 1) ys)) in
      sym (ap (λ (c : Bool). c && more) b)
      ∙ sym (ap (λ (us : List TypeId). same_types (trees_of ts (x ∷ drop (i + 1) xs)) (trees_of ts us)) e)
      ∙ sym (ap (λ (us : List TypeId). same_types (trees_of ts us) (trees_of ts (drop i ys))) d)
      ∙ k

  pub types_end : (xs ys : List TypeId) (i : ℕ) (all : Bool) → length xs ≤ i → length ys ≤ i
      → same_types (trees_of ts (drop i xs)) (trees_of ts (drop i ys)) ≡ all → true ≡ all
  types_end xs ys i all h g k =
      sym (ap (λ (us : List TypeId). same_types (trees_of ts []) (trees_of ts us)) (drop_all i ys g))
      ∙ sym (ap (λ (us : List TypeId). same_types (trees_of ts us) (trees_of ts (drop i ys))) (drop_all i xs h))
      ∙ k

  and_false : (b : Bool) → (b && false) ≡ false
  and_false true = refl
  and_false false = refl

  pub other_count : (xs ys : List TypeId) → ¬ (length xs ≡ length ys) → same_types (trees_of ts xs) (trees_of ts ys) ≡ false
  other_count [] [] h = absurd (h refl)
  other_count [] (y ∷ ys) h = refl
  other_count (x ∷ xs) [] h = refl
  other_count (x ∷ xs) (y ∷ ys) h =
      ap (λ (c : Bool). same_type (tree_of ts x) (tree_of ts y) && c) (other_count xs ys (λ e. h (omega (arith, e)))) ∙ and_false (same_type (tree_of ts x) (tree_of ts y))

  -- ---- methods of an interface

  -- whether a type has a method
  abbrev pub has_method : CoreProgram → Ty → MethodSpec → Bool
  has_method p t m =
      has_signature (trees_of ts m.sig.params) (trees_of ts m.sig.results) m.sig.variadic (func_of_row p (row_of p (record { type_ = t; name = m.name; package_ = m.package })))

  module _ (p : CoreProgram) (t : Ty) (all : List MethodSpec) where
    pub specs_step : (i : ℕ) (m : MethodSpec) (b : Bool) → drop i all ≡ m ∷ drop (i + 1) all → has_method p t m ≡ true
        → implements p t (specs_of ts (drop i all)) ≡ b → implements p t (specs_of ts (drop (i + 1) all)) ≡ b
    specs_step i m b d h k =
        let more = implements p t (specs_of ts (drop (i + 1) all)) in
        sym (ap (λ (c : Bool). c && more) h) ∙ sym (ap (λ (ms : List MethodSpec). implements p t (specs_of ts ms)) d) ∙ k

    pub specs_lacks : (i : ℕ) (m : MethodSpec) (b : Bool) → drop i all ≡ m ∷ drop (i + 1) all → has_method p t m ≡ false
        → implements p t (specs_of ts (drop i all)) ≡ b → false ≡ b
    specs_lacks i m b d h k =
        let more = implements p t (specs_of ts (drop (i + 1) all)) in
        sym (ap (λ (c : Bool). c && more) h) ∙ sym (ap (λ (ms : List MethodSpec). implements p t (specs_of ts ms)) d) ∙ k

    pub specs_end : (i : ℕ) (b : Bool) → length all ≤ i → implements p t (specs_of ts (drop i all)) ≡ b → true ≡ b
    specs_end i b h k = sym (ap (λ (ms : List MethodSpec). implements p t (specs_of ts ms)) (drop_all i all h)) ∙ k
