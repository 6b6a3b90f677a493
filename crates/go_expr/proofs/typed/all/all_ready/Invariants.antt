use Rattle.std.proofs.Common.{take, map}
use Rattle.go_syntax.specs.View.{expr_view}
use Rattle.go_operands.specs.EnvView.{table_of}
use Rattle.go_calls.specs.Words.{scopes_of}
use Rattle.go_expr.specs.Raw.{AllReady, Grows}
use Rattle.go_expr.proofs.typed.all.all_ready.Given as goal

-- those so far
abbrev pub invariant-loop-e : goal.invariant-loop-e
invariant-loop-e l = record {
  ready : AllReady (scopes_of l.env) (table_of l.env) l.all.items (map expr_view (take l.e-index l.es));
  grows : Grows l.initial.env l.env;
}
