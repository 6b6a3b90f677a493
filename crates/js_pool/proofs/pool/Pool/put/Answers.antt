use Rattle.std.proofs.Common.{◌≡◌, ◌∷◌, [], ◌++◌, ◌-◌, ◌≤◌, length, length-append, refl, sym, ap, arith}
use Rattle.js_pool.specs.Stands.{Later, opened, held}
use Rattle.js_pool.proofs.Growth.{holds_same, holds_more, held_at, grows_by, never, fails_grow, front_part, moved, held_last}
use Rattle.js_pool.proofs.pool.Pool.put.Goals as goal

pub returns-in-Ok : goal.returns-in-Ok
unfolding opened
returns-in-Ok c = ((grows_by _ _ (λ h. h) (λ i x h. h) (λ i x h. h) (holds_more _ _ c.args.word.now c.in-Ok.ensures.items) (λ i x h. h) (λ i x h. h) (λ i x h. h) (λ i x h. h), refl), λ end g. c.in-Ok.ensures.items)

pub returns-in-Err : goal.returns-in-Err
unfolding opened
returns-in-Err c = ((fails_grow _ _ c.fail.ensures.0, c.fail.ensures.1), λ end g. absurd (never _ _ c.fail.ensures.0 g))
