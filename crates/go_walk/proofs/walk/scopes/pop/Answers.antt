use Rattle.go_operands.specs.EnvView.{env_of}
use Rattle.go_walk.proofs.ScopeLemmas.{pop_count}
use Rattle.go_walk.proofs.walk.scopes.pop.Goals as goal

pub returns-clause-depth : goal.returns-clause-depth
returns-clause-depth c = pop_count (env_of c.args.walk.now.env) (env_of c.pop.new.self) c.requires.depth c.pop.ensures.value
