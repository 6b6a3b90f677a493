use Rattle.js_values.specs.Steps.{then_does}
use Rattle.js_values.specs.Numbers.{guarded, lowered}
use Rattle.js_values.proofs.numbers.binary_of.Goals as goal

pub returns : goal.returns
returns c = then_does c.args.b.now c.guard.new.b c.lowered.new.b (guarded c.args.op c.args.kind) (lowered c.args.op c.args.kind) c.guard.ensures c.lowered.ensures
