use Rattle.std.proofs.Common.{◌∙◌}
use Rattle.go_body.proofs.local_consts.names.declared_constant.Goals as goal

pub new_constant-requires-clause-missing : goal.new_constant-requires-clause-missing
new_constant-requires-clause-missing c = λ ts. c.requires.there ts ∙ c.in-None.is
