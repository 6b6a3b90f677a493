use Rattle.std.proofs.Common.{map, drop}
use Rattle.go_syntax.specs.Tree as t
use Rattle.go_syntax.specs.View.{value_spec_view, joined}
use Rattle.go_typing.specs.Declare.{var_specs}
use Rattle.go_body.specs.LocalVarsLeft.{DoesLeft}
use Rattle.go_body.proofs.local_vars.specs.var_specs.Given as goal

-- what was done so far, with what is left
abbrev pub invariant-loop-spec : goal.invariant-loop-spec
invariant-loop-spec l =
    DoesLeft (var_specs l.at (joined (map value_spec_view l.specs) t.NoValues)) (var_specs l.at (joined (map value_spec_view (drop l.spec-index l.specs)) t.NoValues)) l.initial.walk l.walk l.initial.flaws.items l.flaws.items l.initial.out.items l.out.items
