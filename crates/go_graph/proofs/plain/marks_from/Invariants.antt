use Rattle.std.proofs.Common.{◌≤◌, ◌+◌, ◌-◌, length}
use Rattle.go_graph.specs.Cycle.{lists}
use Rattle.go_graph.proofs.SearchLemmas.{Searches, IsClosedBelow}
use Rattle.go_graph.proofs.plain.marks_from.Given as goal

abbrev pub invariant-loop-next : goal.invariant-loop-next
invariant-loop-next l = record {
  searches : Searches (lists l.edges) l.start l.marks.items l.queue.items;
  closed : IsClosedBelow (lists l.edges) l.marks.items l.queue.items l.next;
  within : l.next ≤ length l.queue.items;
}

abbrev pub decreases-loop-next : goal.decreases-loop-next
decreases-loop-next l = length l.edges + 1 - l.next
