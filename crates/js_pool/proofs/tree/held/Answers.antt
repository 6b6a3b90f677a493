use Rattle.std.proofs.Common.{◌≡◌, ◌+◌, ◌-◌, arith}
use Rattle.js_pool.proofs.Held.{range_held}
use Rattle.js_pool.proofs.tree.held.Goals as goal

pub returns-then-end-table : goal.returns-then-end-table
returns-then-end-table g c =
    let s : c.args.from + c.args.many - c.args.from ≡ c.args.many = omega arith in
    rw s (range_held c.args.table.now c.args.from c.args.many (omega arith))
