use Rattle.go_type.specs.Levels.{tree_of}
use Rattle.go_type.specs.Table.{places, names, size}
use Rattle.go_type.specs.Members.{sought}
use Rattle.go_type.specs.Walk.{AllWithin}
use Rattle.go_type.proofs.WalkLemmas.{Walks}
use Rattle.go_type.proofs.walk.walk.Given as goal

abbrev pub invariant-loop-depth : goal.invariant-loop-depth
invariant-loop-depth l = record {
  walks : Walks (names l.table) (places l.table) (sought l.name l.«package») (tree_of (places l.table) l.fn.t) l.depth l.seen.items l.level.items;
  within : AllWithin (size l.table) l.level.items;
}
