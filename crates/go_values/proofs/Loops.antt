-- Numbers, characters and scalars, one after another.
use Rattle.std.proofs.Common.{sym, ap, ◌∙◌}
use Rattle.std.specs.Prelude.{◌≡◌, ◌<◌, ◌≤◌, ℕ, pos, ◌+◌, List, [], ◌∷◌, ◌++◌, length, drop, get_or, map, flat_map}
use Rattle.std.proofs.lemmas.List.{drop_more, drop_all, append_assoc, append-nil, map-append}
use Rattle.go_type.specs.Tree.{Ty}
use Rattle.go_core.specs.Memory as core
use Rattle.go_core.specs.StepNumbers.{number_in, character_of, whole_of}
use Rattle.go_values.specs.ValuesSeen.{scalar_of, value_of}
use Rattle.go_values.proofs.ScalarLemmas.{whole_seen}
use Rattle.go_values.specs.declared.values.scalar.Scalar.{Scalar}
use Rattle.go_values.specs.declared.values.scalar.Scalar.TheVariants.{Whole}

module _ (ts : List Ty) where
  split_at : (cells : List Scalar) (i : ℕ) (x : Scalar) → i < length cells → x ≡ get_or cells i x → drop i cells ≡ x ∷ drop (i + 1) cells
  split_at cells i x h e = drop_more cells i x h ∙ ap (λ (y : Scalar). y ∷ drop (i + 1) cells) (sym e)

  pub bytes_step : (old new all : List ℕ) (cells : List Scalar) (i : ℕ) (x : Scalar) (b : ℕ) → i < length cells → x ≡ get_or cells i x
      → b ≡ number_in (scalar_of ts x) → new ≡ old ++ b ∷ []
      → old ++ map number_in (value_of ts (drop i cells)) ≡ all → new ++ map number_in (value_of ts (drop (i + 1) cells)) ≡ all
  bytes_step old new all cells i x b h e f g k =
      let rest = map number_in (value_of ts (drop (i + 1) cells)) in
      ap (λ (ys : List ℕ). ys ++ rest) (g ∙ ap (λ (y : ℕ). old ++ y ∷ []) f)
      ∙ append_assoc old (number_in (scalar_of ts x) ∷ []) rest
      ∙ sym (ap (λ (ys : List Scalar). old ++ map number_in (value_of ts ys)) (split_at cells i x h e))
      ∙ k

  pub bytes_end : (old all : List ℕ) (cells : List Scalar) (i : ℕ) → length cells ≤ i → old ++ map number_in (value_of ts (drop i cells)) ≡ all → old ≡ all
  bytes_end old all cells i h k = sym (append-nil old) ∙ sym (ap (λ (ys : List Scalar). old ++ map number_in (value_of ts ys)) (drop_all i cells h)) ∙ k

  pub characters_step : (old new all : List ℕ) (cells : List Scalar) (i : ℕ) (x : Scalar) → i < length cells → x ≡ get_or cells i x
      → new ≡ old ++ character_of (scalar_of ts x)
      → old ++ flat_map character_of (value_of ts (drop i cells)) ≡ all → new ++ flat_map character_of (value_of ts (drop (i + 1) cells)) ≡ all
  characters_step old new all cells i x h e g k =
      let rest = flat_map character_of (value_of ts (drop (i + 1) cells)) in
      ap (λ (ys : List ℕ). ys ++ rest) g
      ∙ append_assoc old (character_of (scalar_of ts x)) rest
      ∙ sym (ap (λ (ys : List Scalar). old ++ flat_map character_of (value_of ts ys)) (split_at cells i x h e))
      ∙ k

  pub characters_end : (old all : List ℕ) (cells : List Scalar) (i : ℕ) → length cells ≤ i → old ++ flat_map character_of (value_of ts (drop i cells)) ≡ all → old ≡ all
  characters_end old all cells i h k = sym (append-nil old) ∙ sym (ap (λ (ys : List Scalar). old ++ flat_map character_of (value_of ts ys)) (drop_all i cells h)) ∙ k

  pub wholes_step : (old new : List Scalar) (all : List core.Scalar) (numbers : List ℕ) (i n d : ℕ) → i < length numbers → n ≡ get_or numbers i d
      → new ≡ old ++ Whole (pos n) ∷ []
      → value_of ts old ++ map whole_of (drop i numbers) ≡ all → value_of ts new ++ map whole_of (drop (i + 1) numbers) ≡ all
  wholes_step old new all numbers i n d h e g k =
      let rest = map whole_of (drop (i + 1) numbers) in
      let d : drop i numbers ≡ n ∷ drop (i + 1) numbers = drop_more numbers i d h ∙ ap (λ (y : ℕ). y ∷ drop (i + 1) numbers) (sym e) in
      ap (λ (ys : List Scalar). value_of ts ys ++ rest) g
      ∙ ap (λ (ys : List core.Scalar). ys ++ rest) (map-append (scalar_of ts) old (Whole (pos n) ∷ []))
      ∙ ap (λ (x : core.Scalar). (value_of ts old ++ x ∷ []) ++ rest) (whole_seen ts (pos n))
      ∙ append_assoc (value_of ts old) (whole_of n ∷ []) rest
      ∙ sym (ap (λ (ys : List ℕ). value_of ts old ++ map whole_of ys) d)
      ∙ k

  pub wholes_end : (old : List Scalar) (all : List core.Scalar) (numbers : List ℕ) (i : ℕ) → length numbers ≤ i → value_of ts old ++ map whole_of (drop i numbers) ≡ all → value_of ts old ≡ all
  wholes_end old all numbers i h k = sym (append-nil (value_of ts old)) ∙ sym (ap (λ (ys : List ℕ). value_of ts old ++ map whole_of ys) (drop_all i numbers h)) ∙ k
