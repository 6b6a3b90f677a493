use Rattle.std.proofs.Common.{◌≡◌, ◌≤◌, drop, map, length}
use Rattle.go_type.specs.Table.{size}
use Rattle.go_syntax.specs.View.{expr_view}
use Rattle.go_operands.specs.EnvView.{table_of}
use Rattle.go_calls.specs.Words.{types_of}
use Rattle.go_walk.specs.WalkView.{walk_outside}
use Rattle.go_expr.specs.Raw.{Grows}
use Rattle.go_assign.specs.LeftView.{lefts_view, lefts_of, LeftsBelow}
use Rattle.go_assign.proofs.assign.left.lefts_of.Given as goal

-- those from a place on
abbrev pub invariant-loop-left : goal.invariant-loop-left
invariant-loop-left l = record {
  bound : l.left ≤ length l.es;
  view : lefts_view (types_of l.env) l.lefts ≡ lefts_of (walk_outside l.env) (map expr_view (drop l.left l.es));
  within : LeftsBelow (size (table_of l.env)) l.lefts;
  grows : Grows l.initial.env l.env;
}

abbrev pub decreases-loop-left : goal.decreases-loop-left
decreases-loop-left l = l.left
