use Rattle.std.proofs.Common.{◌∙◌}
use Rattle.js_value.proofs.Places.{has_is}
use Rattle.js_value.proofs.value.entries.has.Goals as goal

pub returns : goal.returns
returns c = record { value = c.is_some.ensures ∙ has_is c.args.name.now c.args.entries.now c.place.result c.place.ensures.value }
