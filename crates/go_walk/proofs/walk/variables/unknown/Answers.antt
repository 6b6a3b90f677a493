use Rattle.std.proofs.Common.{ap}
use Rattle.go_typing.specs.Scopes.{visible}
use Rattle.go_operands.specs.EnvView.{env_of}
use Rattle.go_operands.specs.declared.scopes.env.Env.{Env}
use Rattle.go_walk.proofs.WalkLemmas.{there_still}
use Rattle.go_walk.proofs.walk.variables.unknown.Goals as goal

pub name-requires-clause-missing : goal.name-requires-clause-missing
name-requires-clause-missing c = λ ts.
    there_still c.args.n.now (visible (env_of c.args.walk.now.env)) (visible (env_of c.note.new.walk.env)) (ap (λ (e : Env). visible (env_of e)) c.in_ok-note.ensures.env) (c.requires.missing ts)
