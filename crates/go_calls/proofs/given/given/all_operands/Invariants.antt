use Rattle.std.proofs.Common.{◌≡◌, ◌++◌, vec_len}
use Rattle.go_type.specs.Table.{places, size}
use Rattle.go_typing.specs.Wanted.{operands_of}
use Rattle.go_calls.specs.CallView.{parts_view, operands_view, PartsBelow, AllBelow}
use Rattle.go_calls.proofs.given.given.all_operands.Given as goal

-- the operands of what is left, and those so far
abbrev pub invariant-parts : goal.invariant-parts
invariant-parts l = record {
  view : operands_of (parts_view (places l.table) l.parts.items) ++ operands_view (places l.table) l.operands.items
      ≡ operands_of (parts_view (places l.table) l.fn.parts.items) ++ operands_view (places l.table) l.fn.operands.items;
  parts : PartsBelow (size l.table) l.parts.items;
  operands : AllBelow (size l.table) l.operands.items;
}

abbrev pub decreases-parts : goal.decreases-parts
decreases-parts l = vec_len l.parts
