-- Rows of methods by their places.
use Rattle.std.proofs.Common.{◌⊎◌, inl, inr, refl, sym, ap, ◌∙◌, subst, arith}
use Rattle.std.specs.Prelude.{◌≡◌, ◌<◌, ◌+◌, ℕ, zero, suc, List, [], ◌∷◌, Bool, true, false, ◌&&◌, if◌then◌else◌, bytes_eq, Option, Some, length, map, slice_get}
use Rattle.go_type.specs.Tree.{Ty}
use Rattle.go_type.specs.Levels.{tree_of}
use Rattle.go_type.specs.Table.{places}
use Rattle.go_type.proofs.Identity.{one_id}
use Rattle.go_type.proofs.PlaceLemmas.{bytes_one}
use Rattle.go_core.specs.declared.program.MethodRow as declared
use Rattle.go_core.specs.declared.program.Program.{Program}
use Rattle.go_core.specs.CoreTree.{MethodName, MethodRow}
use Rattle.go_core.specs.CoreView.{method_row_view, program_view}
use Rattle.go_core.specs.SameType.{same_type}
use Rattle.go_core.specs.StepInterfaces.{is_row, row_from}
use Rattle.go_core.proofs.SameTypeLemmas.{type_one}
use Rattle.go_sound_parts.specs.declared.index.KeyIndex.{KeyIndex}
use Rattle.go_sound_parts.specs.Index.{IsIndexed, OwnRows, name_of, place_in}
use Rattle.go_sound_parts.proofs.SelfTypes.{both_true, bytes_self, type_self}
use Rattle.go_sound_parts.proofs.SpecLemmas.{both, some_one}

last_or : (k i : ℕ) → k < i + 1 → (k < i) ⊎ (k ≡ i)
last_or zero zero h = inr refl
last_or zero (suc i) h = inl (omega arith)
last_or (suc k) zero h = absurd (omega arith)
last_or (suc k) (suc i) h = one_more (last_or k i (omega arith))
  where
    one_more : (k < i) ⊎ (k ≡ i) → (suc k < suc i) ⊎ (suc k ≡ suc i)
    one_more (inl l) = inl (omega arith)
    one_more (inr e) = inr (ap suc e)

-- what holds below a place and there holds below the next one
pub up_to : (P : ℕ → Type 0) (i : ℕ) → ((k : ℕ) → k < i → P k) → P i → (k : ℕ) → k < i + 1 → P k
up_to P i f h k l = by_place (last_or k i l)
  where
    by_place : (k < i) ⊎ (k ≡ i) → P k
    by_place (inl m) = f k m
    by_place (inr e) = subst P (sym e) h

-- what a mapped list has at a place
pub got_of_map : {A B : Type 0} (f : A → B) (xs : List A) (k : ℕ) (y : B) → slice_get (map f xs) k ≡ Some y → (x : A) × (slice_get xs k ≡ Some x) × (f x ≡ y)
got_of_map f [] k y h = absurd (cc)
got_of_map f (z ∷ zs) zero y h = (z, refl, some_one (f z) y h)
got_of_map f (z ∷ zs) (suc k) y h = got_of_map f zs k y h

-- ---- the first row of a method

record IsFirst (n : MethodName) (rows : List MethodRow) (k : ℕ) : Type 0 where
  pub at : ℕ
  pub row : MethodRow
  pub there : slice_get rows at ≡ Some row
  pub of_method : is_row n row ≡ true
  pub found : row_from k n rows ≡ Some (k + at)

module _ (n : MethodName) (x : MethodRow) (xs : List MethodRow) (k : ℕ) where
  first_here : is_row n x ≡ true → IsFirst n (x ∷ xs) k
  first_here e = record {
    at = 0;
    row = x;
    there = refl;
    of_method = e;
    found = let s : k ≡ k + 0 = omega arith in ap (λ (c : Bool). if c then Some k else row_from (suc k) n xs) e ∙ ap (λ (m : ℕ). Some m) s;
  }

  first_later : is_row n x ≡ false → IsFirst n xs (suc k) → IsFirst n (x ∷ xs) k
  first_later e g = record {
    at = suc g.at;
    row = g.row;
    there = g.there;
    of_method = g.of_method;
    found = let s : suc k + g.at ≡ k + suc g.at = omega arith in ap (λ (c : Bool). if c then Some k else row_from (suc k) n xs) e ∙ g.found ∙ ap (λ (m : ℕ). Some m) s;
  }

  first_of : (c : Bool) → is_row n x ≡ c → IsFirst n xs (suc k) → IsFirst n (x ∷ xs) k
  first_of true e g = first_here e
  first_of false e g = first_later e g

first_row : (n : MethodName) (rows : List MethodRow) (i k : ℕ) (r : MethodRow) → slice_get rows i ≡ Some r → is_row n r ≡ true → IsFirst n rows k
first_row n [] i k r h b = absurd (cc)
first_row n (x ∷ xs) zero k r h b = first_here n x xs k (subst (λ (y : MethodRow). is_row n y ≡ true) (sym (some_one x r h)) b)
first_row n (x ∷ xs) (suc i) k r h b = first_of n x xs k (is_row n x) refl (first_row n xs i (suc k) r h b)

-- ---- one place for each method

own_name : (r : MethodRow) → is_row (name_of r) r ≡ true
own_name r =
    both_true (same_type r.type_ r.type_ && bytes_eq r.name r.name) (bytes_eq r.package_ r.package_)
    (both_true (same_type r.type_ r.type_) (bytes_eq r.name r.name) (type_self r.type_) (bytes_self r.name)) (bytes_self r.package_)

-- rows with one name, found at their places, are at one place
one_place : (p : Program) (x : KeyIndex) (i j : ℕ) (a : IsIndexed p x i) (b : IsIndexed p x j)
    → is_row (name_of (method_row_view (places p.types) a.row)) (method_row_view (places p.types) b.row) ≡ true → i ≡ j
one_place p x i j a b h =
    let ts = places p.types in
    let both_names = both (same_type (tree_of ts a.row.ty) (tree_of ts b.row.ty) && bytes_eq a.row.name b.row.name) (bytes_eq a.row.package b.row.package) h in
    let of_type = both (same_type (tree_of ts a.row.ty) (tree_of ts b.row.ty)) (bytes_eq a.row.name b.row.name) both_names.0 in
    let same_ty : a.row.ty.0 ≡ b.row.ty.0 =
    one_id (length p.types.names.items) p.types.levels.keys p.types.rises p.types.distinct a.row.ty.0 b.row.ty.0 a.within b.within
    (type_one (tree_of ts a.row.ty) (tree_of ts b.row.ty) of_type.0) in
    let same_name = bytes_one a.row.name b.row.name of_type.1 in
    let same_package = bytes_one a.row.package b.row.package both_names.1 in
    some_one i j
    (sym a.found
    ∙ ap (λ (t : ℕ). place_in x t a.row.name a.row.package) same_ty
    ∙ ap (λ (n : List ℕ). place_in x b.row.ty.0 n a.row.package) same_name
    ∙ ap (λ (n : List ℕ). place_in x b.row.ty.0 b.row.name n) same_package
    ∙ b.found)

module _ (p : Program) (x : KeyIndex) (all : (k : ℕ) (d : declared.MethodRow) → slice_get p.methods.items.items k ≡ Some d → IsIndexed p x k) where
  -- the row at a place, as the index has it
  indexed : (k : ℕ) (r : MethodRow) → slice_get (program_view p).methods k ≡ Some r → (a : IsIndexed p x k) × (method_row_view (places p.types) a.row ≡ r)
  indexed k r e =
      let g = got_of_map (method_row_view (places p.types)) p.methods.items.items k r e in
      let a = all k g.0 g.1 in
      (a, ap (method_row_view (places p.types)) (some_one a.row g.0 (sym a.is_row ∙ g.1)) ∙ g.2)

  pub own_rows : OwnRows (program_view p)
  own_rows i r e =
      let f = first_row (name_of r) (program_view p).methods i 0 r e (own_name r) in
      let a = indexed i r e in
      let b = indexed f.at f.row f.there in
      let named : is_row (name_of (method_row_view (places p.types) a.0.row)) (method_row_view (places p.types) b.0.row) ≡ true =
      subst (λ (y : MethodRow). is_row (name_of y) (method_row_view (places p.types) b.0.row) ≡ true) (sym a.1)
      (subst (λ (y : MethodRow). is_row (name_of r) y ≡ true) (sym b.1) f.of_method) in
      let s : 0 + f.at ≡ i = let one = one_place p x i f.at a.0 b.0 named in omega (arith, one) in
      f.found ∙ ap (λ (m : ℕ). Some m) s
