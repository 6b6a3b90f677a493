use Rattle.go_define.proofs.DefineLemmas.{target_at}
use Rattle.go_define.proofs.define.one.type_new.Goals as goal

pub returns-in-Ok-and_target-clause-targets : goal.returns-in-Ok-and_target-clause-targets
returns-in-Ok-and_target-clause-targets c = λ ts k. target_at ts c.args.targets.now.items c.and_target.new.items.items c.in-Ok.target _ c.in-Ok-and_target.ensures.items (c.in-Ok.ensures.target ts k)
