use Rattle.std.proofs.Common.{◌≡◌, ◌++◌, drop, map}
use Rattle.go_syntax.specs.View.{expr_view, exprs_of}
use Rattle.go_operands.specs.EnvView.{env_of}
use Rattle.go_typing.specs.Scopes.{visible}
use Rattle.go_typing.specs.Cycles.{needed_all}
use Rattle.go_walk.specs.Texts.{texts}
use Rattle.go_items.proofs.needed.needed.+needed.Given as goal

-- the names so far and those of what is left are all
abbrev pub invariant-needed_all-loop-e : goal.invariant-needed_all-loop-e
invariant-needed_all-loop-e l =
    texts l.names.items ++ needed_all (visible (env_of l.env)) (exprs_of (map expr_view (drop l.e-index l.es))) ≡ texts l.initial.names.items ++ needed_all (visible (env_of l.env)) (exprs_of (map expr_view l.es))
