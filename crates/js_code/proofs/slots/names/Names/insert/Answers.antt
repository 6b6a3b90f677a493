use Rattle.std.proofs.Common.{◌∙◌, ap}
use Rattle.js_code.specs.Names.{names_of}
use Rattle.js_code.specs.NameLaws.{insert_is}
use Rattle.js_code.proofs.slots.names.Names.insert.Goals as goal

pub returns : goal.returns
returns c = record { value = ap names_of c.in_ok-insert.ensures.keys ∙ insert_is c.args.self.now.set.keys c.args.x }
