use Rattle.std.proofs.Common.{◌≡◌, length}
use Rattle.go_type.specs.Levels.{trees_of}
use Rattle.go_type.specs.Table.{places, names}
use Rattle.go_typing.specs.Call.{all_scalar}
use Rattle.go_calls.specs.Types.{AreTypesOf}
use Rattle.go_calls.proofs.calls.printing.all_scalar.Given as goal

-- what is left has the same answer
abbrev pub invariant-types : goal.invariant-types
invariant-types l = record {
  scalar : all_scalar (names l.table) (trees_of (places l.table) l.rest) ≡ all_scalar (names l.table) (trees_of (places l.table) l.types);
  types : AreTypesOf l.table l.rest;
}

abbrev pub decreases-types : goal.decreases-types
decreases-types l = length l.rest
