-- What holds of each element of a list, written out.
use Rattle.std.proofs.Common.{subst, arith}
use Rattle.std.specs.Prelude.{◌≡◌, ℕ, zero, suc, List, [], ◌∷◌, Some, Contains}

abbrev pub Each : {X : Type 0} → (X → Type 0) → List X → Type 0
Each P [] = Unit {0}
Each P (x ∷ xs) = P x × Each P xs

pub of_each : {X : Type 0} (P : X → Type 0) (xs : List X) → Each P xs → (x : X) → Contains xs x → P x
of_each P [] h x (k, lt, e) = absurd (omega (arith, lt))
of_each P (y ∷ ys) h x (zero, lt, e) = subst P e h.0
of_each P (y ∷ ys) h x (suc k, lt, e) = of_each P ys h.1 x (k, omega (arith, lt), e)

pub some_inj : {A : Type 0} (x y : A) → Some x ≡ Some y → x ≡ y
some_inj x y e = cc
