-- Lists that are gone over from the front.
use Rattle.std.proofs.Common.{refl, sym, ap, ◌∙◌}
use Rattle.std.specs.Prelude.{◌≡◌, ◌<◌, ℕ, ◌+◌, List, [], ◌∷◌, ◌++◌, length, drop, get_or, map, Option, Some, None, option_map, option_and_then}
use Rattle.std.proofs.lemmas.List.{drop_more, append_assoc}
use Rattle.std.specs.List.{drop-map}
use Rattle.std.specs.Borrow.{Bor}
use Rattle.go_core.specs.declared.node.Var.{Var}
use Rattle.go_core.specs.declared.node.VarId.{VarId}
use Rattle.go_values.specs.declared.values.scalar.Scalar.{Scalar}

-- what a proof reads past the end of a list
abbrev pub no_var : Var
no_var = record { id = record { 0 = 0 }; ty = record { 0 = 0 } }

abbrev pub no_id : VarId
no_id = record { 0 = 0 }

abbrev pub nothing : Bor (List Scalar)
nothing = record { ref_ptr = (0, 0); now = [] }

pub split_map : {A B : Type 0} (f : A → B) (xs : List A) (i : ℕ) (x d : A) → i < length xs → x ≡ get_or xs i d → drop i (map f xs) ≡ f x ∷ drop (i + 1) (map f xs)
split_map {A} {B} f xs i x d h e =
    drop-map f i xs
    ∙ ap (map f) (drop_more xs i d h ∙ ap (λ (y : A). y ∷ drop (i + 1) xs) (sym e))
    ∙ ap (λ (ys : List B). f x ∷ ys) (sym (drop-map f (i + 1) xs))

-- one more that was found, before the others
pub gathered : {A : Type 0} (xs : List A) (x : A) (o : Option (List A))
    → option_map (λ (ys : List A). xs ++ ys) (option_and_then (λ (ys : List A). Some (x ∷ ys)) o) ≡ option_map (λ (ys : List A). (xs ++ x ∷ []) ++ ys) o
gathered {A} xs x None = refl
gathered {A} xs x (Some ys) = ap (λ (zs : List A). Some zs) (sym (append_assoc xs (x ∷ []) ys))
