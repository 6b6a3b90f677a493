use Rattle.std.proofs.Common.{◌≡◌, ◌++◌, length}
use Rattle.std.specs.Prelude.{map}
use Rattle.go_type.specs.Table.{places, size}
use Rattle.go_typing.specs.Wanted.{no_values}
use Rattle.go_operands.specs.AnswerView.{flaw_view}
use Rattle.go_calls.specs.CallView.{parts_view, PartsBelow}
use Rattle.go_calls.proofs.given.given.no_values.Given as goal

-- the faults so far, and those of what is left
abbrev pub invariant-parts : goal.invariant-parts
invariant-parts l = record {
  flaws : map flaw_view l.flaws.items ++ no_values (parts_view (places l.table) l.rest) ≡ no_values (parts_view (places l.table) l.parts);
  within : PartsBelow (size l.table) l.rest;
}

abbrev pub decreases-parts : goal.decreases-parts
decreases-parts l = length l.rest
