use Rattle.std.proofs.Common.{◌≡◌, ◌∷◌, [], ◌++◌, length, refl, arith}
use Rattle.js_pool.specs.Stands.{Later, opened, at_node, held}
use Rattle.js_pool.proofs.Growth.{holds_same, holds_more, last_at, held_at, grows_by, never, fails_grow}
use Rattle.js_pool.proofs.pool.Pool.add.Goals as goal

pub returns-then-self-clause-makes : goal.returns-then-self-clause-makes
returns-then-self-clause-makes c end g t s = absurd (never _ _ c.if-self.true g)

pub returns-in-None-clause-keeps : goal.returns-in-None-clause-keeps
returns-in-None-clause-keeps c = (fails_grow _ _ c.fail.ensures.0, c.fail.ensures.1)

pub returns-in-None-clause-makes : goal.returns-in-None-clause-makes
returns-in-None-clause-makes c end g t s = absurd (never _ _ c.fail.ensures.0 g)
