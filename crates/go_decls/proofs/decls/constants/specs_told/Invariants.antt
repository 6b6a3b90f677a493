use Rattle.std.proofs.Common.{◌≡◌, ◌++◌, drop, map}
use Rattle.go_syntax.specs.Tree as t
use Rattle.go_syntax.specs.View.{value_spec_view, joined}
use Rattle.go_operands.specs.AnswerView.{flaw_view}
use Rattle.go_items.specs.ItemView.{type_in, values_in}
use Rattle.go_typing.specs.Told.{specs_told}
use Rattle.go_expr.specs.Raw.{Grows}
use Rattle.go_walk.specs.WalkView.{walk_outside}
use Rattle.go_decls.proofs.decls.constants.specs_told.Given as goal

-- what is told so far, with that of the specifications that are left
abbrev pub invariant-loop-spec : goal.invariant-loop-spec
invariant-loop-spec l = record {
  told :
      map flaw_view l.flaws.items ++ specs_told l.at l.number (walk_outside l.initial.env) (type_in l.source) (values_in l.source) (joined (map value_spec_view (drop l.spec-index l.specs)) t.NoValues)
      ≡ map flaw_view l.initial.flaws.items ++ specs_told l.at 0 (walk_outside l.initial.env) t.NoExpr t.NoExprs (joined (map value_spec_view l.specs) t.NoValues);
  grows : Grows l.initial.env l.env;
}
