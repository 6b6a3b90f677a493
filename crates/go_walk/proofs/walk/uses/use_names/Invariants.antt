use Rattle.std.proofs.Common.{◌≡◌, ◌++◌, drop}
use Rattle.go_operands.specs.EnvView.{env_of}
use Rattle.go_typing.specs.Scopes.{visible}
use Rattle.go_typing.specs.Walk.{places_of}
use Rattle.go_walk.specs.Texts.{texts}
use Rattle.go_walk.proofs.walk.uses.use_names.Given as goal

-- what is used so far, with what is left
abbrev pub invariant-loop-x : goal.invariant-loop-x
invariant-loop-x l = l.used.items ++ places_of (texts (drop l.x-index l.names)) (visible (env_of l.env)) ≡ l.initial.used.items ++ places_of (texts l.names) (visible (env_of l.env))
