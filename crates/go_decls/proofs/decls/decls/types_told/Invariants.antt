use Rattle.std.proofs.Common.{drop, map}
use Rattle.go_syntax.specs.Tree as t
use Rattle.go_syntax.specs.View.{type_spec_view, joined}
use Rattle.go_operands.specs.AnswerView.{flaw_view}
use Rattle.go_typing.specs.Told.{types_told}
use Rattle.go_decls.proofs.DeclLemmas.{Goes}
use Rattle.go_decls.proofs.decls.decls.types_told.Given as goal

abbrev pub invariant-loop-spec : goal.invariant-loop-spec
invariant-loop-spec l =
    Goes types_told l.initial.env l.env (joined (map type_spec_view (drop l.spec-index l.specs)) t.NoTypes) (joined (map type_spec_view l.specs) t.NoTypes) (map flaw_view l.initial.flaws.items) (map flaw_view l.flaws.items)
