use Rattle.js_pool.specs.Says as says
use Rattle.js_pool.proofs.pool.Pool.top_tree.Goals as goal

pub returns-in_ok-e-in-Global : goal.returns-in_ok-e-in-Global
returns-in_ok-e-in-Global c = rw (c.in-Global.is, c.in_ok-x-in-Global.ensures) (says.global c.in_ok-e-in-Global.ensures)
