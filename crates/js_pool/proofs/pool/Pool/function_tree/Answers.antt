use Rattle.js_pool.specs.Says as says
use Rattle.js_pool.proofs.pool.Pool.function_tree.Goals as goal

pub returns : goal.returns
returns c = rw c.in_ok-name.ensures (says.function c.in_ok-params.ensures c.in_ok-body.ensures)
