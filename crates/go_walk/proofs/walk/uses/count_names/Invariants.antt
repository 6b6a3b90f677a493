use Rattle.std.proofs.Common.{◌≡◌, ◌+◌, drop}
use Rattle.go_operands.specs.EnvView.{env_of}
use Rattle.go_typing.specs.Scopes.{visible}
use Rattle.go_typing.specs.Walk.{count_untyped}
use Rattle.go_walk.specs.Texts.{texts}
use Rattle.go_walk.proofs.walk.uses.count_names.Given as goal

-- those so far, with those in what is left
abbrev pub invariant-loop-x : goal.invariant-loop-x
invariant-loop-x l = l.lost + count_untyped (texts (drop l.x-index l.names)) (visible (env_of l.env)) ≡ l.initial.lost + count_untyped (texts l.names) (visible (env_of l.env))
