use Rattle.std.proofs.Common.{length, refl, sym, ap}
use Rattle.js_pool.specs.Stands as stands
use Rattle.js_pool.specs.Stands.{Later, opened}
use Rattle.js_pool.proofs.Growth.{last_at, never}
use Rattle.js_pool.proofs.pool.Pool.begin.Goals as goal

pub returns-in-Ok-clause-open : goal.returns-in-Ok-clause-open
unfolding opened
returns-in-Ok-clause-open c = refl

pub returns-in-Ok-clause-first : goal.returns-in-Ok-clause-first
unfolding Later
returns-in-Ok-clause-first c e end g = (refl, stands.at_node (g.nodes _ _ (last_at _ _ _ 0 c.in-Ok.ensures.items (sym (ap length e)))) stands.null)

pub returns-in-Err-clause-first : goal.returns-in-Err-clause-first
returns-in-Err-clause-first c e end g = absurd (never _ _ c.fail.ensures.0 g)

pub returns-in-Err-clause-open : goal.returns-in-Err-clause-open
unfolding opened
returns-in-Err-clause-open c = c.fail.ensures.1
