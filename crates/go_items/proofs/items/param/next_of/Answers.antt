use Rattle.std.proofs.Common.{◌∙◌}
use Rattle.go_items.proofs.ItemsParamLemmas.{next_is, next_stays}
use Rattle.go_items.proofs.items.param.next_of.Goals as goal

pub returns-in-Some : goal.returns-in-Some
returns-in-Some c = record { value = λ rest h. next_is c.args.p.now rest c.in-Some.field-0 c.in-Some.is }

pub returns-in-None : goal.returns-in-None
returns-in-None c = record { value = λ rest h. next_stays c.args.p.now rest c.in-None.is ∙ h }
