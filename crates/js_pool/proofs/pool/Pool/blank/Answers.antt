use Rattle.std.proofs.Common.{refl}
use Rattle.js_pool.specs.Stands.{opened}
use Rattle.js_pool.proofs.pool.Pool.blank.Goals as goal

pub returns-clause-open : goal.returns-clause-open
unfolding opened
returns-clause-open c = rw (c.new-9.ensures.items, c.new-10.ensures.items, c.new-11.ensures.items) refl
