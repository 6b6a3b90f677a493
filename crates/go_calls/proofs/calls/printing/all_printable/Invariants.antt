use Rattle.std.proofs.Common.{◌≡◌, length}
use Rattle.go_type.specs.Table.{places, names, size}
use Rattle.go_typing.specs.Call.{all_printable}
use Rattle.go_calls.specs.CallView.{operands_view, AllBelow}
use Rattle.go_calls.proofs.calls.printing.all_printable.Given as goal

-- what is left has the same answer
abbrev pub invariant-operands : goal.invariant-operands
invariant-operands l = record {
  printable : all_printable (names l.table) (operands_view (places l.table) l.rest) ≡ all_printable (names l.table) (operands_view (places l.table) l.operands);
  within : AllBelow (size l.table) l.rest;
}

abbrev pub decreases-operands : goal.decreases-operands
decreases-operands l = length l.rest
