use Rattle.std.proofs.Common.{arith}
use Rattle.js_value.proofs.ValueObjects.{set_item_is}
use Rattle.js_value.proofs.value.heap.set_item.Goals as goal

pub returns-then-i-len-clause-value : goal.returns-then-i-len-clause-value
returns-then-i-len-clause-value c = set_item_is c.args.items.now.items c.args.i c.args.v (omega (arith, c.if-i-len.true, c.len.ensures, c.args.items.now.ok.0))
