use Rattle.std.proofs.Common.{drop, map}
use Rattle.go_syntax.specs.View.{expr_view, exprs_of}
use Rattle.go_type.specs.Table.{size}
use Rattle.go_operands.specs.EnvView.{table_of}
use Rattle.go_calls.specs.CallView.{PartsBelow}
use Rattle.go_calls.specs.Words.{types_of, names_of, scopes_of}
use Rattle.go_expr.specs.Ready.{AllReady}
use Rattle.go_expr.proofs.WalkLemmas.{Reaches}
use Rattle.go_expr.proofs.expr.typing.+typing.Given as goal

-- what waits and what is told so far, with what is left, are all
abbrev pub invariant-all-loop-x : goal.invariant-all-loop-x
invariant-all-loop-x l = record {
  reaches : Reaches (types_of l.env) (names_of l.env) (scopes_of l.env) l.xs l.x-index l.initial.parts.items l.parts.items l.initial.flaws.items l.flaws.items;
  ready : AllReady (scopes_of l.env) l.gives (exprs_of (map expr_view (drop l.x-index l.xs)));
  within : PartsBelow (size (table_of l.env)) l.parts.items;
}
