use Rattle.js_pool.specs.Tree as tree
use Rattle.js_body.specs.declared.body.Known.TheVariants as known
use Rattle.js_body.specs.State.{pushed_known}
use Rattle.js_values.specs.Steps.{made_done}
use Rattle.js_values.proofs.constants.push_text.Goals as goal

pub returns : goal.returns
returns c = made_done c.args.b.now c.text-e.new.self c.push_known.new.self c.text-e.result (tree.string c.args.s.now) (pushed_known known.Constant) c.text-e.ensures c.push_known.ensures
