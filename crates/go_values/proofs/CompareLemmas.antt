-- A comparison, scalar by scalar.
use Rattle.std.proofs.Common.{◌⊎◌, inl, inr, refl, sym, ap, ◌∙◌, arith}
use Rattle.std.specs.Prelude.{◌≡◌, ◌<◌, ◌≤◌, ℕ, ◌+◌, List, [], ◌∷◌, Bool, true, false, length, drop, get_or}
use Rattle.std.proofs.lemmas.List.{drop_more, drop_all}
use Rattle.go_type.specs.Tree.{Ty}
use Rattle.go_type.specs.Named.{NamedTy}
use Rattle.go_core.specs.Memory as core
use Rattle.go_core.specs.Memory.{packed}
use Rattle.go_core.specs.Equality.{Verdict, equal, different, refused, and_next, taking, if_compared, of_one_type, compare_scalars, compare_all}
use Rattle.go_values.specs.ValuesSeen.{scalar_of, value_of}
use Rattle.go_values.specs.declared.values.scalar.Scalar.{Scalar}

and_is : (m : ℕ) (v : Verdict) → and_next (equal m) v ≡ taking m v
and_is m (equal n) = refl
and_is m (different n) = refl
and_is m (refused n) = refl

taking_none : (v : Verdict) → taking 0 v ≡ v
taking_none (equal n) = ap equal (omega arith)
taking_none (different n) = ap different (omega arith)
taking_none (refused n) = ap refused (omega arith)

taking_both : (m n : ℕ) (v : Verdict) → taking m (taking n v) ≡ taking (m + n) v
taking_both m n (equal k) = ap equal (omega arith)
taking_both m n (different k) = ap different (omega arith)
taking_both m n (refused k) = ap refused (omega arith)

module _ (ns : List NamedTy) (ts : List Ty) where
  -- what is left from a place on
  abbrev pub rest_from : List Bool → List Scalar → List Scalar → ℕ → Verdict
  rest_from looked xs ys i = compare_all ns (drop i looked) (packed (value_of ts (drop i xs))) (packed (value_of ts (drop i ys)))

  one_on : (looked : List Bool) (xs ys : List Scalar) (i : ℕ) (f d : Bool) (x y : Scalar) → i < length looked → i < length xs → i < length ys
      → f ≡ get_or looked i d → x ≡ get_or xs i x → y ≡ get_or ys i y
      → rest_from looked xs ys i ≡ and_next (if_compared f (compare_scalars ns (scalar_of ts x) (scalar_of ts y))) (rest_from looked xs ys (i + 1))
  one_on looked xs ys i f d x y hl hx hy ef ex ey =
      let dl : drop i looked ≡ f ∷ drop (i + 1) looked = drop_more looked i d hl ∙ ap (λ (b : Bool). b ∷ drop (i + 1) looked) (sym ef) in
      let dx : drop i xs ≡ x ∷ drop (i + 1) xs = drop_more xs i x hx ∙ ap (λ (b : Scalar). b ∷ drop (i + 1) xs) (sym ex) in
      let dy : drop i ys ≡ y ∷ drop (i + 1) ys = drop_more ys i y hy ∙ ap (λ (b : Scalar). b ∷ drop (i + 1) ys) (sym ey) in
      ap (λ (fs : List Bool). compare_all ns fs (packed (value_of ts (drop i xs))) (packed (value_of ts (drop i ys)))) dl
      ∙ ap (λ (us : List Scalar). compare_all ns (f ∷ drop (i + 1) looked) (packed (value_of ts us)) (packed (value_of ts (drop i ys)))) dx
      ∙ ap (λ (us : List Scalar). compare_all ns (f ∷ drop (i + 1) looked) (packed (value_of ts (x ∷ drop (i + 1) xs))) (packed (value_of ts us))) dy

  -- where no difference is found
  pub goes_on : (looked : List Bool) (xs ys : List Scalar) (i m n : ℕ) (f d : Bool) (x y : Scalar) (v all : Verdict) → i < length looked → i < length xs → i < length ys
      → f ≡ get_or looked i d → x ≡ get_or xs i x → y ≡ get_or ys i y → v ≡ if_compared f (compare_scalars ns (scalar_of ts x) (scalar_of ts y)) → v ≡ equal n
      → all ≡ taking m (rest_from looked xs ys i) → all ≡ taking (m + n) (rest_from looked xs ys (i + 1))
  goes_on looked xs ys i m n f d x y v all hl hx hy ef ex ey e q h =
      let next = rest_from looked xs ys (i + 1) in
      h ∙ ap (taking m) (one_on looked xs ys i f d x y hl hx hy ef ex ey ∙ ap (λ (w : Verdict). and_next w next) (sym e ∙ q) ∙ and_is n next) ∙ taking_both m n next

  -- the first difference
  pub stops : (looked : List Bool) (xs ys : List Scalar) (i m : ℕ) (f d : Bool) (x y : Scalar) (v all : Verdict) → i < length looked → i < length xs → i < length ys
      → f ≡ get_or looked i d → x ≡ get_or xs i x → y ≡ get_or ys i y → v ≡ if_compared f (compare_scalars ns (scalar_of ts x) (scalar_of ts y)) → ((n : ℕ) → ¬ (v ≡ equal n))
      → all ≡ taking m (rest_from looked xs ys i) → taking m v ≡ all
  stops looked xs ys i m f d x y v all hl hx hy ef ex ey e no_equal h =
      let next = rest_from looked xs ys (i + 1) in
      sym (h ∙ ap (taking m) (one_on looked xs ys i f d x y hl hx hy ef ex ey ∙ ap (λ (w : Verdict). and_next w next) (sym e) ∙ stays v next no_equal))
    where
      stays : (w next : Verdict) → ((n : ℕ) → ¬ (w ≡ equal n)) → and_next w next ≡ w
      stays (equal n) next k = absurd (k n refl)
      stays (different n) next k = refl
      stays (refused n) next k = refl

  nothing_left : (looked : List Bool) (xs ys : List Scalar) → (xs ≡ []) ⊎ (ys ≡ []) → compare_all ns looked (packed (value_of ts xs)) (packed (value_of ts ys)) ≡ equal 0
  nothing_left [] xs ys h = refl
  nothing_left (f ∷ fs) [] ys h = refl
  nothing_left (f ∷ fs) (x ∷ xs) [] h = refl
  nothing_left (f ∷ fs) (x ∷ xs) (y ∷ ys) (inl e) = absurd (cc)
  nothing_left (f ∷ fs) (x ∷ xs) (y ∷ ys) (inr e) = absurd (cc)

  ended : (m : ℕ) (all v : Verdict) → v ≡ equal 0 → all ≡ taking m v → equal m ≡ all
  ended m all v e h = sym (h ∙ ap (taking m) e ∙ ap equal (omega arith))

  pub ends_left : (looked : List Bool) (xs ys : List Scalar) (i m : ℕ) (all : Verdict) → length xs ≤ i → all ≡ taking m (rest_from looked xs ys i) → equal m ≡ all
  ends_left looked xs ys i m all l h = ended m all (rest_from looked xs ys i) (nothing_left (drop i looked) (drop i xs) (drop i ys) (inl (drop_all i xs l))) h

  pub ends_right : (looked : List Bool) (xs ys : List Scalar) (i m : ℕ) (all : Verdict) → length ys ≤ i → all ≡ taking m (rest_from looked xs ys i) → equal m ≡ all
  ends_right looked xs ys i m all l h = ended m all (rest_from looked xs ys i) (nothing_left (drop i looked) (drop i xs) (drop i ys) (inr (drop_all i ys l))) h

  pub ends_all : (looked : List Bool) (xs ys : List Scalar) (i m : ℕ) (all : Verdict) → length looked ≤ i → all ≡ taking m (rest_from looked xs ys i) → equal m ≡ all
  ends_all looked xs ys i m all l h =
      ended m all (rest_from looked xs ys i) (ap (λ (fs : List Bool). compare_all ns fs (packed (value_of ts (drop i xs))) (packed (value_of ts (drop i ys)))) (drop_all i looked l)) h

-- ---- interface values

pub refused_is : (same comparable : Bool) (n m : ℕ) (v : Verdict) → true ≡ same → false ≡ comparable → n ≡ m → refused n ≡ of_one_type same comparable m v
refused_is true false n m v s c e = ap refused e
refused_is false comparable n m v s c e = absurd (cc)
refused_is true true n m v s c e = absurd (cc)

pub found_is : (same comparable : Bool) (n m : ℕ) (v w : Verdict) → true ≡ same → true ≡ comparable → n ≡ m → v ≡ w → taking n v ≡ of_one_type same comparable m w
found_is true true n m v w s c e f = ap (λ (k : ℕ). taking k v) e ∙ ap (taking m) f
found_is false comparable n m v w s c e f = absurd (cc)
found_is true false n m v w s c e f = absurd (cc)

pub starts : (v : Verdict) → v ≡ taking 0 v
starts v = sym (taking_none v)
