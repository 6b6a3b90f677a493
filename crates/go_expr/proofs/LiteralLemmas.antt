-- Numbers below 2^127 are untyped constants.
use Rattle.std.proofs.Common.{arith, ◌≡◌, ◌<◌, ℕ, ap, cond, Bool, true, Some, None}
use Rattle.std.specs.Prelude.{◌^◌, pos, nat_lt}
use Rattle.std.proofs.lemmas.Bool.Decides.{nat_tests}
use Rattle.go_operands.specs.Whole.{whole}

below : (n m : ℕ) → n < m → nat_lt n m ≡ true
below n m h = grind (arith, nat_tests)

pub whole_fits : (n : ℕ) → n < 2 ^ 127 → whole n ≡ Some (pos n)
whole_fits n h = ap (λ (b : Bool). cond b (Some (pos n)) None) (below n (2 ^ 127) h)

pub none_some : {A : Type 0} (x : A) → None ≡ Some x → ⊥
none_some x h = cc
