use Rattle.std.proofs.Common.{◌≡◌, ◌∷◌, [], ◌++◌, length, refl, arith}
use Rattle.js_pool.specs.Stands.{Later, opened, at_node, held}
use Rattle.js_pool.proofs.Growth.{holds_same, holds_more, last_at, held_at, grows_by, never, fails_grow}
use Rattle.js_pool.proofs.pool.Pool.add_at.Goals as goal

pub returns-in-Ok-clause-keeps : goal.returns-in-Ok-clause-keeps
unfolding opened
returns-in-Ok-clause-keeps c = (grows_by _ _ (λ h. h) (holds_more _ _ (c.args.node ∷ []) c.in-Ok.ensures.items) (λ i x h. h) (λ i x h. h) (λ i x h. h) (λ i x h. h) (λ i x h. h) (λ i x h. h), refl)

pub returns-in-Ok-clause-makes : goal.returns-in-Ok-clause-makes
unfolding Later
returns-in-Ok-clause-makes c l end g t s = at_node (g.nodes _ _ (last_at _ _ c.args.node _ c.in-Ok.ensures.items l)) s

pub returns-in-Err-clause-keeps : goal.returns-in-Err-clause-keeps
unfolding opened
returns-in-Err-clause-keeps c = (fails_grow _ _ c.fail.ensures.0, c.fail.ensures.1)

pub returns-in-Err-clause-makes : goal.returns-in-Err-clause-makes
returns-in-Err-clause-makes c l end g t s = absurd (never _ _ c.fail.ensures.0 g)
