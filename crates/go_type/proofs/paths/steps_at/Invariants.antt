use Rattle.std.proofs.Common.{◌<◌}
use Rattle.go_type.specs.Levels.{tree_of}
use Rattle.go_type.specs.Table.{places, names, size}
use Rattle.go_type.specs.Members.{sought, members_at, NoneBefore}
use Rattle.go_type.specs.Paths.{Follows}
use Rattle.go_type.proofs.paths.steps_at.Given as goal

abbrev pub invariant-down : goal.invariant-down
invariant-down l = record {
  within : l.at.0 < size l.table;
  quiet : NoneBefore (names l.table) (sought l.name l.«package») (tree_of (places l.table) l.at) l.left;
  on_the_way : Follows (members_at (names l.table) (sought l.name l.«package») l.fn.depth (tree_of (places l.table) l.fn.t)) l.fn.before.items
      (members_at (names l.table) (sought l.name l.«package») l.left (tree_of (places l.table) l.at)) l.steps.items;
}

abbrev pub decreases-down : goal.decreases-down
decreases-down l = l.left
