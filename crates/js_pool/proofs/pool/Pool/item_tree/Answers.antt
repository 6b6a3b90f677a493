use Rattle.std.proofs.lemmas.Result.{IfOk-weaker}
use Rattle.js_pool.proofs.Only.{only_top}
use Rattle.js_pool.proofs.pool.Pool.item_tree.Goals as goal

pub returns-clause-only : goal.returns-clause-only
returns-clause-only c = IfOk-weaker c.top_tree.result _ _ (λ i h t k. only_top _ _ _ _ h k) c.top_tree.ensures
