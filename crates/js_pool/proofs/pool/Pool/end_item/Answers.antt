use Rattle.std.proofs.Common.{refl}
use Rattle.js_pool.specs.Stands.{opened}
use Rattle.js_pool.proofs.Growth.{grows_by, never, fails_grow}
use Rattle.js_pool.proofs.pool.Pool.end_item.Goals as goal

pub returns-in-Ok : goal.returns-in-Ok
unfolding opened
returns-in-Ok c = ((grows_by _ _ (λ h. h) (λ i x h. h) (λ i x h. h) (λ i x h. h) (λ i x h. h) (λ i x h. h) (λ i x h. h) (λ i x h. h), refl), λ end g. refl)

pub returns-in-Err : goal.returns-in-Err
unfolding opened
returns-in-Err c = ((fails_grow _ _ c.fail.ensures.0, c.fail.ensures.1), λ end g. absurd (never _ _ c.fail.ensures.0 g))
