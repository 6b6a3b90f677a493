use Rattle.std.proofs.Common.{◌≡◌, ◌≤◌, drop, map, length}
use Rattle.go_syntax.specs.View.{expr_view}
use Rattle.go_type.specs.Table.{size}
use Rattle.go_operands.specs.EnvView.{table_of}
use Rattle.go_calls.specs.Words.{types_of, names_of, scopes_of}
use Rattle.go_expr.specs.Raw.{raws_view, raws_of, RawsBelow}
use Rattle.go_expr.proofs.typed.all.fill.Given as goal

-- those from this place on
abbrev pub invariant-loop-left : goal.invariant-loop-left
invariant-loop-left l = record {
  place : l.left ≤ length l.es;
  view : raws_view (types_of l.env) l.raws ≡ raws_of (names_of l.env) (scopes_of l.env) (map expr_view (drop l.left l.es));
  within : RawsBelow (size (table_of l.env)) l.raws;
}

abbrev pub decreases-loop-left : goal.decreases-loop-left
decreases-loop-left l = l.left
