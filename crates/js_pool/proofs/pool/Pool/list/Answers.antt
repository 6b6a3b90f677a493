use Rattle.std.proofs.Common.{◌≡◌, ◌∷◌, [], ◌++◌, length, refl, arith}
use Rattle.js_pool.specs.Stands.{Later, opened, at_node, held}
use Rattle.js_pool.proofs.Growth.{holds_same, holds_more, last_at, held_at, grows_by, never, fails_grow}
use Rattle.js_pool.proofs.pool.Pool.list.Goals as goal

pub returns-in_default-clause-keeps : goal.returns-in_default-clause-keeps
returns-in_default-clause-keeps c = (fails_grow _ _ c.fail.ensures.0, c.fail.ensures.1)

pub returns-in_default-clause-makes : goal.returns-in_default-clause-makes
returns-in_default-clause-makes c end g ts s = absurd (never _ _ c.fail.ensures.0 g)
