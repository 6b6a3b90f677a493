use Rattle.js_values.specs.Steps.{by_kind}
use Rattle.js_values.specs.Numbers.{binary_done}
use Rattle.js_values.proofs.numbers.binary.Goals as goal

pub returns : goal.returns
returns c = by_kind c.args.b.now c.binary_of.new.b c.args.t c.int_kind-kind.result (binary_done c.args.op) c.int_kind-kind.ensures c.binary_of.ensures
