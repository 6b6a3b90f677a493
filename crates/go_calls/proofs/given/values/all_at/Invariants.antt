use Rattle.std.proofs.Common.{◌≡◌, length}
use Rattle.go_type.specs.Levels.{trees_of}
use Rattle.go_type.specs.Table.{places, names, size}
use Rattle.go_typing.specs.Call.{values_at}
use Rattle.go_calls.specs.CallView.{operands_view, AllBelow}
use Rattle.go_calls.specs.Types.{AreTypesOf}
use Rattle.go_calls.specs.Passed.{passing_then}
use Rattle.go_calls.proofs.given.values.all_at.Given as goal

-- the values so far, and those of what is left
abbrev pub invariant-params : goal.invariant-params
invariant-params l = record {
  values : passing_then (places l.table) l.passing (values_at (names l.table) (trees_of (places l.table) l.rest) (operands_view (places l.table) l.operands.items))
      ≡ passing_then (places l.table) l.fn.passing (values_at (names l.table) (trees_of (places l.table) l.params) (operands_view (places l.table) l.fn.operands.items));
  params : AreTypesOf l.table l.rest;
  count : length l.rest ≡ length l.operands.items;
  within : AllBelow (size l.table) l.operands.items;
}

abbrev pub decreases-params : goal.decreases-params
decreases-params l = length l.rest
