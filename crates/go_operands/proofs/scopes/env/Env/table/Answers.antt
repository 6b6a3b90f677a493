use Rattle.go_operands.proofs.ReadyLemmas.{has}
use Rattle.go_operands.proofs.scopes.env.Env.table.Goals as goal

pub returns-clause-predeclared : goal.returns-clause-predeclared
returns-clause-predeclared c = has c.args.self.now.table c.args.self.now.begins
