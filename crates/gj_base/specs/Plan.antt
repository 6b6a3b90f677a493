-- own: which calls of the outside in memory are told to fail.
use Rattle.std.specs.Prelude.{ℕ, Option}
use Rattle.std.specs.Ordering.{nat_cmp}
use Rattle.std.specs.FinMap as map
use Rattle.std.specs.FinMap.{FinMap}

-- from the number of a call to how many bytes a store or a write takes before it fails
abbrev pub Plan : Type 0
Plan = FinMap nat_cmp ℕ

-- after how many bytes this call fails, where it is told to
abbrev pub failure_at : Plan → ℕ → Option ℕ
failure_at plan call = map.get plan call

-- the plan in which this call fails so, and all others as before
abbrev pub with_failure : Plan → ℕ → ℕ → Plan
with_failure plan call after = map.insert plan call after
