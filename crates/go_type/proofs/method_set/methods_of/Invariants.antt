use Rattle.go_type.specs.Levels.{tree_of}
use Rattle.go_type.specs.Table.{places, names, size}
use Rattle.go_type.specs.Tried.{AreMethods}
use Rattle.go_type.proofs.TryLemmas.{TriedBelow}
use Rattle.go_type.proofs.method_set.methods_of.Given as goal

abbrev pub invariant-loop-next : goal.invariant-loop-next
invariant-loop-next l = record {
  are : AreMethods (size l.table) (places l.table) (names l.table) (tree_of (places l.table) l.t) l.indirect l.specs.items;
  tried : TriedBelow (size l.table) (places l.table) (names l.table) (tree_of (places l.table) l.t) l.indirect l.next l.ids.keys l.specs.items;
}
