-- What an index is as a bound: its value where it is a constant, and its node.
use Rattle.std.specs.Prelude.{ℕ, Bool, false, nat_lt, Option, Some, None}
use Rattle.go_core.specs.CoreTree.{Bound, bound, no_bound}
use Rattle.go_typing.specs.Index.{Index, index}

abbrev pub index_value : Index → Option ℕ
index_value (index d n) = n
index_value _ = None

abbrev pub index_bound : Index → Bound
index_bound (index d n) = bound d
index_bound _ = no_bound

-- the first is less than the second, where both are constants
abbrev pub is_before : Option ℕ → Option ℕ → Bool
is_before (Some n) (Some m) = nat_lt n m
is_before _ _ = false
