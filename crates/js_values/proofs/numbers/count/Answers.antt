use Rattle.js_values.specs.Steps.{by_kind}
use Rattle.js_values.specs.Numbers.{counted}
use Rattle.js_values.proofs.numbers.count.Goals as goal

pub returns : goal.returns
returns c = by_kind c.args.b.now c.count_of.new.b c.args.t c.int_kind-kind.result counted c.int_kind-kind.ensures c.count_of.ensures
