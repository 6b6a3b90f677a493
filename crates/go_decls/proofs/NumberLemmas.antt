-- The numbers of names, one declaration after the other.
use Rattle.std.proofs.Common.{◌≡◌, ℕ, List, refl, Bool, true, false, if◌then◌else◌, bytes_eq}
use Rattle.std.specs.Prelude.{Option, Some, None}
use Rattle.go_walk.specs.SetsHas.{with_number}

-- the first number, or else the other
abbrev pub or_number : Option ℕ → Option ℕ → Option ℕ
or_number (Some n) o = Some n
or_number None o = o

pub one_more : (x : List ℕ) (n : ℕ) (o : Option ℕ) (y : List ℕ) (r : Option ℕ) → or_number (with_number x n o y) r ≡ or_number o (if bytes_eq y x then Some n else r)
one_more x n (Some m) y r = refl
one_more x n None y r = by_test (bytes_eq y x)
  where
    by_test : (b : Bool) → or_number (if b then Some n else None) r ≡ (if b then Some n else r)
    by_test true = refl
    by_test false = refl

pub no_more : (o : Option ℕ) → or_number o None ≡ o
no_more (Some n) = refl
no_more None = refl
