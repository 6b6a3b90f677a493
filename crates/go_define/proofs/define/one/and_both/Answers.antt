use Rattle.go_define.proofs.DefineLemmas.{target_more}
use Rattle.go_define.proofs.define.one.and_both.Goals as goal

pub returns-in-Ok-and_valued-clause-targets : goal.returns-in-Ok-and_valued-clause-targets
returns-in-Ok-and_valued-clause-targets c = λ ts. target_more ts c.args.targets.now.items c.and_target.new.items.items c.args.target c.in-Ok.ensures.items
