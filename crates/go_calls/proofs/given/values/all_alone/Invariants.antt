use Rattle.std.proofs.Common.{◌≡◌, vec_len}
use Rattle.go_type.specs.Table.{places, names, size}
use Rattle.go_typing.specs.Call.{values_alone}
use Rattle.go_calls.specs.CallView.{operands_view, AllBelow}
use Rattle.go_calls.specs.Passed.{passing_then}
use Rattle.go_calls.proofs.given.values.all_alone.Given as goal

-- the values so far, and those of what is left
abbrev pub invariant-operands : goal.invariant-operands
invariant-operands l = record {
  values : passing_then (places l.table) l.passing (values_alone (names l.table) (operands_view (places l.table) l.operands.items))
      ≡ passing_then (places l.table) l.fn.passing (values_alone (names l.table) (operands_view (places l.table) l.fn.operands.items));
  within : AllBelow (size l.table) l.operands.items;
}

abbrev pub decreases-operands : goal.decreases-operands
decreases-operands l = vec_len l.operands
