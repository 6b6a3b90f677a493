use Rattle.js_values.specs.Steps.{by_kind}
use Rattle.js_values.specs.Numbers.{sized}
use Rattle.js_values.proofs.numbers.size.Goals as goal

pub returns : goal.returns
returns c = by_kind c.args.b.now c.size_of.new.b c.args.t c.int_kind-kind.result sized c.int_kind-kind.ensures c.size_of.ensures
