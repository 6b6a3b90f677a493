use Rattle.std.proofs.Common.{refl}
use Rattle.js_pool.specs.Stands.{opened}
use Rattle.js_pool.proofs.pool.Pool.fail.Goals as goal

pub returns : goal.returns
unfolding opened
returns c = (refl, refl)
