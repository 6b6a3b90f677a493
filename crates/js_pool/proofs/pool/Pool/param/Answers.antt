use Rattle.std.proofs.Common.{rules, ◌≡◌, ◌∷◌, [], ◌++◌, ◌-◌, ◌≤◌, length, min, drop, refl, sym, ◌∙◌, ap, arith}
use Rattle.js_pool.specs.Stands.{Later, opened}
use Rattle.js_pool.proofs.Growth.{holds_more, grows_by, never, fails_grow, least_mark, front_part, whole_back, moved, held_last}
use Rattle.js_pool.proofs.pool.Pool.param.Goals as goal

pub returns-in-Ok : goal.returns-in-Ok
unfolding opened
returns-in-Ok c = ((grows_by _ _ (λ h. h) (λ i x h. h) (λ i x h. h) (λ i x h. h) (λ i x h. h) (λ i x h. h) (holds_more _ _ (c.args.name ∷ []) c.in-Ok.ensures.items) (λ i x h. h), refl), λ end g. c.in-Ok.ensures.items)

pub returns-in-Err : goal.returns-in-Err
unfolding opened
returns-in-Err c = ((fails_grow _ _ c.fail.ensures.0, c.fail.ensures.1), λ end g. absurd (never _ _ c.fail.ensures.0 g))
