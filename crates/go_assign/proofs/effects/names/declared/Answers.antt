use Rattle.std.proofs.Common.{◌∙◌}
use Rattle.go_assign.proofs.effects.names.declared.Goals as goal

pub new_name-requires-clause-missing : goal.new_name-requires-clause-missing
new_name-requires-clause-missing c = λ ts. c.requires.there ts ∙ c.in-None.is
