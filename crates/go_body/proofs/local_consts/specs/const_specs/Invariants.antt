use Rattle.std.proofs.Common.{List, map, drop}
use Rattle.go_syntax.specs.Tree as t
use Rattle.go_syntax.specs.View.{value_spec_view, joined}
use Rattle.go_core.specs.declared.statement.CoreStmt.{CoreStmt}
use Rattle.go_calls.specs.Words.{scopes_of}
use Rattle.go_typing.specs.Declare.{const_specs}
use Rattle.go_items.specs.ItemView.{type_in, values_in}
use Rattle.go_body.specs.LocalVarsLeft.{DoesLeft}
use Rattle.go_body.specs.Plain.{IsPlain}
use Rattle.go_body.proofs.local_consts.specs.const_specs.Given as goal

-- what was done so far, with what is left
abbrev pub invariant-loop-spec : goal.invariant-loop-spec
invariant-loop-spec l = record {
  does : (out : List CoreStmt)
      → DoesLeft (const_specs l.at 0 t.NoExpr t.NoExprs (joined (map value_spec_view l.specs) t.NoValues)) (const_specs l.at l.number (type_in l.source) (values_in l.source) (joined (map value_spec_view (drop l.spec-index l.specs)) t.NoValues)) l.initial.walk l.walk
      l.initial.flaws.items l.flaws.items out out;
  plain : IsPlain (scopes_of l.walk.env);
}
