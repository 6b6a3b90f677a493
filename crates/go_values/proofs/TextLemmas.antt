-- Printed values, one after another.
use Rattle.std.proofs.Common.{sym, ap, ◌∙◌}
use Rattle.std.specs.Prelude.{◌≡◌, ◌<◌, ◌≤◌, ℕ, ◌+◌, List, [], ◌∷◌, ◌++◌, length, drop, get_or}
use Rattle.std.specs.Borrow.{Bor}
use Rattle.std.proofs.lemmas.List.{drop_more, drop_all, append_assoc, append-nil}
use Rattle.go_type.specs.Tree.{Ty}
use Rattle.go_core.specs.Text.{value_text, texts_of, rest_of_line, joined}
use Rattle.go_values.specs.ValuesSeen.{value_of, values_of}
use Rattle.go_values.specs.declared.values.scalar.Scalar.{Scalar}

module _ (ts : List Ty) where
  pub line_step : (old spaced new all : List ℕ) (values : List (Bor (List Scalar))) (i : ℕ) (v d : Bor (List Scalar)) → i < length values → v ≡ get_or values i d
      → spaced ≡ old ++ 32 ∷ [] → new ≡ spaced ++ value_text (value_of ts v.now)
      → old ++ rest_of_line (texts_of (values_of ts (drop i values))) ≡ all → new ++ rest_of_line (texts_of (values_of ts (drop (i + 1) values))) ≡ all
  line_step old spaced new all values i v d h e f g k =
      let s : drop i values ≡ v ∷ drop (i + 1) values = drop_more values i d h ∙ ap (λ (u : Bor (List Scalar)). u ∷ drop (i + 1) values) (sym e) in
      let t = value_text (value_of ts v.now) in
      let rest = rest_of_line (texts_of (values_of ts (drop (i + 1) values))) in
      ap (λ (xs : List ℕ). xs ++ rest) (g ∙ ap (λ (xs : List ℕ). xs ++ t) f)
      ∙ ap (λ (xs : List ℕ). xs ++ rest) (append_assoc old (32 ∷ []) t)
      ∙ append_assoc old (32 ∷ t) rest
      ∙ sym (ap (λ (vs : List (Bor (List Scalar))). old ++ rest_of_line (texts_of (values_of ts vs))) s)
      ∙ k

  pub line_end : (old new all : List ℕ) (values : List (Bor (List Scalar))) (i : ℕ) → length values ≤ i → new ≡ old ++ 10 ∷ [] → old ++ rest_of_line (texts_of (values_of ts (drop i values))) ≡ all → new ≡ all
  line_end old new all values i h e k = e ∙ sym (ap (λ (vs : List (Bor (List Scalar))). old ++ rest_of_line (texts_of (values_of ts vs))) (drop_all i values h)) ∙ k

  pub joined_step : (old new all : List ℕ) (values : List (Bor (List Scalar))) (i : ℕ) (v d : Bor (List Scalar)) → i < length values → v ≡ get_or values i d
      → new ≡ old ++ value_text (value_of ts v.now)
      → old ++ joined (texts_of (values_of ts (drop i values))) ≡ all → new ++ joined (texts_of (values_of ts (drop (i + 1) values))) ≡ all
  joined_step old new all values i v d h e g k =
      let s : drop i values ≡ v ∷ drop (i + 1) values = drop_more values i d h ∙ ap (λ (u : Bor (List Scalar)). u ∷ drop (i + 1) values) (sym e) in
      let t = value_text (value_of ts v.now) in
      let rest = joined (texts_of (values_of ts (drop (i + 1) values))) in
      ap (λ (xs : List ℕ). xs ++ rest) g
      ∙ append_assoc old t rest
      ∙ sym (ap (λ (vs : List (Bor (List Scalar))). old ++ joined (texts_of (values_of ts vs))) s)
      ∙ k

  pub joined_end : (old all : List ℕ) (values : List (Bor (List Scalar))) (i : ℕ) → length values ≤ i → old ++ joined (texts_of (values_of ts (drop i values))) ≡ all → old ≡ all
  joined_end old all values i h k = sym (append-nil old) ∙ sym (ap (λ (vs : List (Bor (List Scalar))). old ++ joined (texts_of (values_of ts vs))) (drop_all i values h)) ∙ k
