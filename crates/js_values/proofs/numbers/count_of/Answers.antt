use Rattle.js_values.specs.Steps.{then_does}
use Rattle.js_values.specs.Numbers.{negative_refused, count_cut}
use Rattle.js_values.proofs.numbers.count_of.Goals as goal

pub returns : goal.returns
returns c = then_does c.args.b.now c.refuse_negative.new.b c.cut_count.new.b (negative_refused c.args.kind) (count_cut c.args.kind) c.refuse_negative.ensures c.cut_count.ensures
