use Rattle.std.proofs.Common.{◌≡◌, ◌<◌, ℕ, []}
use Rattle.go_type.specs.Levels.{tree_of}
use Rattle.go_type.specs.Table.{places, names}
use Rattle.go_type.specs.Members.{sought, members_at}
use Rattle.go_type.proofs.shallow.each_chain.Given as goal

abbrev pub invariant-loop-depth : goal.invariant-loop-depth
invariant-loop-depth l = (e : ℕ) → e < l.depth → members_at (names l.table) (sought l.name l.«package») e (tree_of (places l.table) l.t) ≡ []
