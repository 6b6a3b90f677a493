use Rattle.js_facts.specs.Held.{how}
use Rattle.js_values.specs.Steps.{is_scalar, by_held}
use Rattle.js_values.specs.Values.{zero_done}
use Rattle.js_values.proofs.constants.zero_value.Goals as goal

pub returns : goal.returns
returns c = by_held c.args.b.now c.zero_of.new.b c.args.t (how c.held-held.result) is_scalar zero_done c.held-held.ensures c.zero_of.ensures
