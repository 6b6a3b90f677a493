use Rattle.js_tree.specs.declared.tree.UnaryOp.TheVariants.{Not}
use Rattle.js_pool.specs.Tree.{unary}
use Rattle.js_values.specs.Steps.{last_done, sees1}
use Rattle.js_values.proofs.compare.not.Goals as goal

pub returns : goal.returns
returns c = last_done c.args.b.now c.pop-x.new.self c.not-e.new.self c.push.new.self c.pop-x.result c.not-e.result (unary Not) c.pop-x.ensures (sees1 _ _ _ _ _ c.not-e.ensures) c.push.ensures
