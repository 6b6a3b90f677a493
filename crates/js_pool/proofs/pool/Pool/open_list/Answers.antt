use Rattle.std.proofs.Common.{◌≡◌, ◌∷◌, [], ◌++◌, ◌-◌, ◌≤◌, length, length-append, refl, sym, ap, arith}
use Rattle.js_pool.specs.Stands.{Later, opened, held}
use Rattle.js_pool.proofs.Growth.{holds_same, holds_more, held_at, grows_by, never, fails_grow, front_part, moved, held_last}
use Rattle.js_pool.proofs.pool.Pool.open_list.Goals as goal

pub returns : goal.returns
unfolding opened
returns c = omega (arith, c.args.self.now.rest.ok.0)
