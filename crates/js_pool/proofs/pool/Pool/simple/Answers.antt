use Rattle.js_pool.specs.Says as says
use Rattle.js_pool.proofs.pool.Pool.simple.Goals as goal

pub returns-in_ok-e-in-Declare : goal.returns-in_ok-e-in-Declare
returns-in_ok-e-in-Declare c = rw (c.in-Declare.is, c.declare.ensures, c.in_ok-x-in-Declare.ensures) (says.declare c.in_ok-e-in-Declare.ensures)

pub returns-in_ok-e-in-Assign : goal.returns-in_ok-e-in-Assign
returns-in_ok-e-in-Assign c = rw (c.in-Assign.is, c.assign.ensures, c.in_ok-x-in-Assign.ensures) (says.assign c.in_ok-e-in-Assign.ensures)

pub returns-in_ok-e-in-Store : goal.returns-in_ok-e-in-Store
returns-in_ok-e-in-Store c = rw (c.in-Store.is, c.store.ensures) (says.store c.in_ok-a-in-Store.ensures c.in_ok-i-in-Store.ensures c.in_ok-e-in-Store.ensures)

pub returns-in_ok-e-in-Perform : goal.returns-in_ok-e-in-Perform
returns-in_ok-e-in-Perform c = rw (c.in-Perform.is, c.perform.ensures) (says.perform c.in_ok-e-in-Perform.ensures)

pub returns-in_ok-e-in-Push : goal.returns-in_ok-e-in-Push
returns-in_ok-e-in-Push c = rw (c.in-Push.is, c.push.ensures) (says.push c.in_ok-a-in-Push.ensures c.in_ok-e-in-Push.ensures)

pub returns-in_ok-k-in-Delete : goal.returns-in_ok-k-in-Delete
returns-in_ok-k-in-Delete c = rw (c.in-Delete.is, c.delete.ensures) (says.remove c.in_ok-a-in-Delete.ensures c.in_ok-k-in-Delete.ensures)
