use Rattle.std.proofs.Common.{rules, ◌≡◌, ◌∷◌, [], ◌++◌, ◌-◌, ◌≤◌, length, min, drop, refl, sym, ◌∙◌, ap, arith}
use Rattle.js_pool.specs.Stands.{Later, opened}
use Rattle.js_pool.proofs.Growth.{holds_more, grows_by, never, fails_grow, least_mark, front_part, whole_back, moved, held_last}
use Rattle.js_pool.proofs.pool.Pool.include.Goals as goal

pub returns-in-Ok : goal.returns-in-Ok
unfolding opened
returns-in-Ok c = (grows_by _ _ (λ h. h) (λ i x h. h) (λ i x h. h) (λ i x h. h) (λ i x h. h) (λ i x h. h) (λ i x h. h) (λ i x h. h), λ end g xs h. ap (λ r. record { lines = r; rest = c.args.self.now.rest.items; arms = c.args.self.now.arms.items }) (c.in-Ok.ensures.items ∙ ap (λ z. c.args.self.now.lines.items ++ z) (c.of-stmts.ensures xs (rw c.as_slice.ensures.value h))))

pub returns-in-Err : goal.returns-in-Err
returns-in-Err c = (fails_grow _ _ c.fail.ensures.0, λ end g xs h. absurd (never _ _ c.fail.ensures.0 g))
