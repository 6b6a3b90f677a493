use Rattle.std.proofs.Common.{◌≡◌, ◌∷◌, [], ◌++◌, ◌-◌, ◌≤◌, length, length-append, refl, sym, ap, arith}
use Rattle.js_pool.specs.Stands.{Later, opened, held}
use Rattle.js_pool.proofs.Growth.{holds_same, holds_more, held_at, grows_by, never, fails_grow, front_part, moved, held_last}
use Rattle.js_pool.proofs.pool.Pool.item.Goals as goal

pub returns-in-Ok : goal.returns-in-Ok
unfolding opened
returns-in-Ok c = (
  grows_by _ _ (λ h. h) (λ i x h. h) (λ i x h. h) (λ i x h. h) (λ i x h. h) (λ i x h. h) (λ i x h. h) (λ i x h. h),
  λ end g. ap (λ r. record { lines = c.args.self.now.lines.items; rest = r; arms = c.args.self.now.arms.items }) c.in-Ok.ensures.items,
)

pub returns-in-Err : goal.returns-in-Err
returns-in-Err c = (fails_grow _ _ c.fail.ensures.0, λ end g. absurd (never _ _ c.fail.ensures.0 g))
