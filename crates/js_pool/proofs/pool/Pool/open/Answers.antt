use Rattle.std.proofs.Common.{rules, ◌≡◌, ◌∷◌, [], ◌++◌, ◌-◌, ◌≤◌, length, min, drop, refl, sym, ◌∙◌, ap, arith}
use Rattle.js_pool.specs.Stands.{Later, opened}
use Rattle.js_pool.proofs.Growth.{holds_more, grows_by, never, fails_grow, least_mark, front_part, whole_back, moved, held_last}
use Rattle.js_pool.proofs.pool.Pool.open.Goals as goal

pub returns : goal.returns
unfolding opened
returns c = omega (arith, c.args.self.now.lines.ok.0)
