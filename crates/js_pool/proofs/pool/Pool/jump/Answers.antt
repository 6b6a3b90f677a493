use Rattle.js_pool.specs.Says as says
use Rattle.js_pool.proofs.pool.Pool.jump.Goals as goal

pub returns-in_ok-e-in-Throw : goal.returns-in_ok-e-in-Throw
returns-in_ok-e-in-Throw c = rw (c.in-Throw.is, c.throw.ensures) (says.throw c.in_ok-e-in-Throw.ensures)

pub returns-in_ok-label-in-Break : goal.returns-in_ok-label-in-Break
returns-in_ok-label-in-Break c = rw (c.in-Break.is, c.stop.ensures, c.in_ok-label-in-Break.ensures) says.break

pub returns-in_ok-label-in-Continue : goal.returns-in_ok-label-in-Continue
returns-in_ok-label-in-Continue c = rw (c.in-Continue.is, c.again.ensures, c.in_ok-label-in-Continue.ensures) says.continue
