use Rattle.std.proofs.Common.{List, map, drop}
use Rattle.go_syntax.specs.Tree as t
use Rattle.go_syntax.specs.View.{type_spec_view, joined}
use Rattle.go_core.specs.declared.statement.CoreStmt.{CoreStmt}
use Rattle.go_typing.specs.Declare.{type_specs}
use Rattle.go_body.specs.LocalVarsLeft.{DoesLeft}
use Rattle.go_body.proofs.local.types.type_specs.Given as goal

-- what was done so far, with what is left
abbrev pub invariant-loop-spec : goal.invariant-loop-spec
invariant-loop-spec l =
    (out : List CoreStmt) → DoesLeft (type_specs (joined (map type_spec_view l.specs) t.NoTypes)) (type_specs (joined (map type_spec_view (drop l.spec-index l.specs)) t.NoTypes)) l.initial.walk l.walk l.initial.flaws.items l.flaws.items out out
