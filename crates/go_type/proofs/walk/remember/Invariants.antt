use Rattle.std.proofs.Common.{◌≡◌, ◌++◌, map, length}
use Rattle.go_type.specs.Walk.{first_of}
use Rattle.go_type.proofs.walk.remember.Given as goal

abbrev pub invariant-level : goal.invariant-level
invariant-level l = l.seen.items ++ map first_of l.rest ≡ l.fn.seen.items ++ map first_of l.level

abbrev pub decreases-level : goal.decreases-level
decreases-level l = length l.rest
