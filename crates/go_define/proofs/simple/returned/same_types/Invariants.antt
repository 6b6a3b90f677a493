use Rattle.std.proofs.Common.{◌≡◌, length}
use Rattle.go_type.specs.Levels.{trees_of}
use Rattle.go_type.specs.Table.{places}
use Rattle.go_core.specs.SameType.{same_types}
use Rattle.go_calls.specs.Types.{AreTypesOf}
use Rattle.go_define.proofs.simple.returned.same_types.Given as goal

-- what is left has the same answer
abbrev pub invariant-types : goal.invariant-types
invariant-types l = record {
  same : same_types (trees_of (places l.table) l.first) (trees_of (places l.table) l.second) ≡ same_types (trees_of (places l.table) l.a) (trees_of (places l.table) l.b);
  first : AreTypesOf l.table l.first;
  second : AreTypesOf l.table l.second;
}

abbrev pub decreases-types : goal.decreases-types
decreases-types l = length l.first
