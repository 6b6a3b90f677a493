use Rattle.js_pool.specs.Says as says
use Rattle.js_pool.proofs.pool.Pool.given.Goals as goal

pub returns-in_ok-e-in-Some : goal.returns-in_ok-e-in-Some
returns-in_ok-e-in-Some c = rw (c.in-Some.is, c.gives.ensures) (says.give c.in_ok-e-in-Some.ensures)

pub returns-in-None : goal.returns-in-None
returns-in-None c = rw (c.in-None.is, c.leaves.ensures) says.leave
