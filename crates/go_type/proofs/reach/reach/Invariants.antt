use Rattle.go_type.specs.Table.{places, names, size}
use Rattle.go_type.specs.Reached.{Holds, AreIds}
use Rattle.go_type.proofs.ReachLemmas.{ClosedBelow}
use Rattle.go_type.proofs.reach.reach.Given as goal

abbrev pub invariant-loop-next : goal.invariant-loop-next
invariant-loop-next l = record {
  start : Holds l.ids.keys l.fn.t.0;
  ids : AreIds (size l.table) l.ids.keys;
  closed : ClosedBelow (names l.table) (places l.table) l.next l.ids.keys;
}
