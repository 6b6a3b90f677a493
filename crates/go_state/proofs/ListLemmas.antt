-- Lists that are gone over from the front, and a value of one scalar.
use Rattle.std.proofs.Common.{sym, ap, ◌∙◌}
use Rattle.std.specs.Prelude.{◌≡◌, ◌<◌, ℕ, ◌+◌, List, [], ◌∷◌, length, drop, get_or, map, slice_get, Option, Some, option_map}
use Rattle.std.proofs.lemmas.List.{drop_more}
use Rattle.std.proofs.lemmas.Option.{slice_get-get_or, slice_get-map}
use Rattle.std.specs.List.{drop-map}
use Rattle.std.specs.Borrow.{Bor}
use Rattle.go_values.specs.declared.values.memory.Entry.{Entry}
use Rattle.go_values.specs.declared.values.scalar.Scalar.{Scalar}

module _ {A B : Type 0} (f : A → B) where
  pub split_map : (xs : List A) (i : ℕ) (x d : A) → i < length xs → x ≡ get_or xs i d → drop i (map f xs) ≡ f x ∷ drop (i + 1) (map f xs)
  split_map xs i x d h e =
      drop-map f i xs
      ∙ ap (map f) (drop_more xs i d h ∙ ap (λ (y : A). y ∷ drop (i + 1) xs) (sym e))
      ∙ ap (λ (ys : List B). f x ∷ ys) (sym (drop-map f (i + 1) xs))

  pub there_map : (xs : List A) (i : ℕ) (x d : A) → i < length xs → x ≡ get_or xs i d → slice_get (map f xs) i ≡ Some (f x)
  there_map xs i x d h e =
      slice_get-map f xs i
      ∙ ap (λ (o : Option A). option_map f o) (slice_get-get_or xs i d h ∙ ap (λ (y : A). Some y) (sym e))

-- what a proof reads past the end of a list
abbrev pub no_entry : Entry
no_entry =
    let nothing : Bor (List Scalar) = record { ref_ptr = (0, 0); now = [] } in
    record { key = nothing; value = nothing; birth = 0 }
