use Rattle.std.proofs.Common.{◌≡◌, ◌<◌, ◌≤◌, drop, map, length}
use Rattle.go_type.specs.Table.{size}
use Rattle.go_syntax.specs.View.{expr_view}
use Rattle.go_operands.specs.EnvView.{table_of}
use Rattle.go_calls.specs.Words.{types_of}
use Rattle.go_walk.specs.WalkView.{walk_outside, depth}
use Rattle.go_assign.specs.Moves.{Stays}
use Rattle.go_define.specs.FreshView.{freshes_view, spots_of, FreshesBelow}
use Rattle.go_define.proofs.define.fresh.freshes_in.Given as goal

-- those from a place on
abbrev pub invariant-loop-left : goal.invariant-loop-left
invariant-loop-left l = record {
  bound : l.left ≤ length l.es;
  depth : 0 < depth l.walk;
  view : freshes_view (types_of l.walk.env) l.freshes ≡ spots_of (walk_outside l.initial.walk.env) (map expr_view (drop l.left l.es));
  within : FreshesBelow (size (table_of l.walk.env)) l.freshes;
  stays : Stays l.initial.walk l.walk;
}

abbrev pub decreases-loop-left : goal.decreases-loop-left
decreases-loop-left l = l.left
