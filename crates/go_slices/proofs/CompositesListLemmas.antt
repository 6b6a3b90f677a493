-- Types past the end of a list, and what is written through a borrow.
use Rattle.std.proofs.Common.{ap, ◌∙◌, arith}
use Rattle.std.specs.Prelude.{◌≡◌, ℕ, List, ◌++◌, length, take, drop}
use Rattle.std.proofs.lemmas.List.{append-nil, drop_all, take_all}
use Rattle.go_type.specs.declared.types.TypeId.{TypeId}

-- what a proof reads past the end of a list
abbrev pub no_type : TypeId
no_type = record { 0 = 0 }

-- what is written through a borrow of all of a vector
pub refilled : {A : Type 0} (n : ℕ) (xs ys : List A) → length xs ≡ n → length ys ≡ n → take n (xs ++ drop (length xs) ys) ≡ xs
refilled {A} n xs ys h k =
    ap (λ (zs : List A). take n (xs ++ zs)) (drop_all (length xs) ys (omega (arith, h, k)))
    ∙ ap (take n) (append-nil xs)
    ∙ take_all n xs (omega (arith, h))
