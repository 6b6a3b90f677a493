-- A list of one.
use Rattle.std.proofs.Common.{ap, sym, arith}
use Rattle.std.specs.Prelude.{◌≡◌, ◌<◌, ◌≤◌, List, [], ◌∷◌, length, get_or}

pub only : {A : Type 0} (xs : List A) (x : A) → 1 ≤ length xs → length xs < 2 → x ≡ get_or xs 0 x → xs ≡ x ∷ []
only {A} [] x l h e = absurd (omega (arith, l))
only {A} (y ∷ []) x l h e = ap (λ (z : A). z ∷ []) (sym e)
only {A} (y ∷ z ∷ ys) x l h e = absurd (omega (arith, h))
