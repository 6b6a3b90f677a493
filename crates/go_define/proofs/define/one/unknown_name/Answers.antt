use Rattle.std.proofs.Common.{◌∙◌, sym}
use Rattle.go_define.proofs.DefineLemmas.{unknown_new, unknown_there}
use Rattle.go_define.proofs.define.one.unknown_name.Goals as goal

pub unknown-requires-clause-missing : goal.unknown-requires-clause-missing
unknown-requires-clause-missing c = λ ts. sym (c.in-None.ensures.value ts)

pub returns-in-Ok-clause-walk : goal.returns-in-Ok-clause-walk
returns-in-Ok-clause-walk c = unknown_new c.args.n.now c.args.walk.now c.unknown.new.walk c.in-None.ensures.value c.in-Ok.ensures.table c.in-Ok.ensures.depth c.in-Ok.ensures.value

pub returns-in-Some-clause-walk : goal.returns-in-Some-clause-walk
returns-in-Some-clause-walk c = unknown_there c.args.n.now c.in-Some.field-0 c.args.walk.now c.in-Some.ensures.value
