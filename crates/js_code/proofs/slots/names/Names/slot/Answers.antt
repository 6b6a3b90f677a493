use Rattle.std.proofs.Common.{◌∙◌}
use Rattle.js_code.specs.NameLaws.{position_is}
use Rattle.js_code.proofs.slots.names.Names.slot.Goals as goal

pub returns : goal.returns
returns c = record { value = c.get_index_of.ensures.index ∙ position_is c.args.self.now.set.keys c.args.x.now }
