use Rattle.std.proofs.Common.{rules, ◌≡◌, ◌∷◌, [], ◌++◌, ◌-◌, ◌≤◌, length, min, drop, refl, sym, ◌∙◌, ap, arith}
use Rattle.js_pool.specs.Stands.{Later, opened}
use Rattle.js_pool.proofs.Growth.{holds_more, grows_by, never, fails_grow, least_mark, front_part, whole_back, moved, held_last}
use Rattle.js_pool.proofs.pool.Pool.move_lines.Goals as goal

pub returns-in-Ok : goal.returns-in-Ok
unfolding Later opened
returns-in-Ok c l m =
    let e : c.extend_from_slice.new.self.items ≡ c.args.self.now.stmts.items ++ drop c.args.begun c.args.self.now.lines.items = c.in-Ok.ensures.items ∙ ap (λ z. c.args.self.now.stmts.items ++ z) (whole_back _ _ c.args.begun c.deref.ensures.value) in (
      grows_by _ _ (λ h. h) (λ i x h. h) (λ i x h. h) (λ i x h. h) (holds_more _ _ _ e) (λ i x h. h) (λ i x h. h) (λ i x h. h),
      λ end g before es s b. (
        ap (λ r. record { lines = r; rest = c.args.self.now.rest.items; arms = c.args.self.now.arms.items }) (front_part _ _ before es _ c.truncate.ensures.items s b),
        moved _ before es _ _ _ _ _ _ s b e l m g.stmts,
      ),
    )

pub returns-in-Err : goal.returns-in-Err
returns-in-Err c l m = (fails_grow _ _ c.fail.ensures.0, λ end g before es e a. absurd (never _ _ c.fail.ensures.0 g))
