use Rattle.std.proofs.Common.{◌≡◌, ◌≤◌, take}
use Rattle.go_graph.specs.Search.{marked}
use Rattle.go_graph.proofs.plain.count_of.Given as goal

abbrev pub invariant-loop-mark : goal.invariant-loop-mark
invariant-loop-mark l = record { counted : l.count ≡ marked (take l.mark-index l.marks); within : l.count ≤ l.mark-index }
