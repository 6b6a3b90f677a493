use Rattle.js_values.specs.Steps.{by_kind}
use Rattle.js_values.specs.Numbers.{unary_done}
use Rattle.js_values.proofs.numbers.unary.Goals as goal

pub returns : goal.returns
returns c = by_kind c.args.b.now c.unary_of.new.b c.args.t c.int_kind-kind.result (unary_done c.args.op) c.int_kind-kind.ensures c.unary_of.ensures
