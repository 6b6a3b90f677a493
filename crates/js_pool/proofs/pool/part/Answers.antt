use Rattle.std.proofs.Common.{rules, ◌≡◌, ◌+◌, ◌-◌, min, length, arith}
use Rattle.js_pool.proofs.Held.{part_is}
use Rattle.js_pool.proofs.pool.part.Goals as goal

pub returns : goal.returns
returns g c xs h =
    let e : c.min-from.result ≡ min c.args.from (length c.args.items.now) = search rules in
    let k : c.min-many.result ≡ min c.args.many (length c.args.items.now - c.min-from.result) = search rules in
    let s : c.min-from.result + c.min-many.result - c.min-from.result ≡ c.min-many.result = omega arith in
    rw s (part_is c.args.items.now xs c.args.from c.args.many _ _ e k h)
