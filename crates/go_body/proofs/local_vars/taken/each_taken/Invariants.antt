use Rattle.std.proofs.Common.{[], drop}
use Rattle.go_type.specs.Levels.{trees_of}
use Rattle.go_calls.specs.Words.{types_of}
use Rattle.go_assign.specs.SpecView.{spec_view}
use Rattle.go_body.specs.LocalVarsSpecs.{var_takes}
use Rattle.go_body.specs.LocalVarsLeft.{DefinesLeft}
use Rattle.go_body.proofs.local_vars.taken.each_taken.Given as goal

-- what was declared so far, with what is left
abbrev pub invariant-loop-i : goal.invariant-loop-i
invariant-loop-i l =
    DefinesLeft (var_takes l.place (spec_view (types_of l.initial.walk.env) l.s) l.names (trees_of (types_of l.initial.walk.env) l.types)) (var_takes l.place (spec_view (types_of l.initial.walk.env) l.s) (drop l.i l.names) (trees_of (types_of l.initial.walk.env) (drop l.i l.types))) l.initial.walk l.walk l.initial.flaws.items l.flaws.items
    l.initial.out.items l.out.items l.targets.items []
