use Rattle.std.proofs.Common.{[], ◌∷◌}
use Rattle.js_pool.specs.Says as says
use Rattle.js_emit.proofs.items.add_tree.Goals as goal

pub returns : goal.returns
returns c = (c.in_ok-tree.tree ∷ [], c.in_ok-add_item.ensures, says.top_more c.in_ok-tree.ensures.stands says.top_none)
