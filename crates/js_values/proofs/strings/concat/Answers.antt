use Rattle.js_tree.specs.declared.tree.BinaryOp.TheVariants.{Add}
use Rattle.js_pool.specs.Tree.{binary}
use Rattle.js_values.specs.Steps.{two_done_after}
use Rattle.js_values.specs.Values.{long_refused}
use Rattle.js_values.proofs.strings.concat.Goals as goal

pub returns : goal.returns
returns c = two_done_after c.args.b.now c.pop-y.new.self c.pop-x.new.self c.refuse_long.new.b c.plus-e.new.self c.push.new.self c.pop-y.result c.pop-x.result c.plus-e.result long_refused (binary Add) c.pop-y.ensures c.pop-x.ensures c.refuse_long.ensures c.plus-e.ensures c.push.ensures
