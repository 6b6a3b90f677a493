use Rattle.std.proofs.Common.{◌≡◌, ◌≤◌, Some, length, rules}
use Rattle.std.specs.List.{slice_get}
use Rattle.js_pool.proofs.More.{one_plain, none_plain}
use Rattle.js_pool.proofs.pool.Pool.only_if.Goals as goal

pub returns-in_default : goal.returns-in_default
returns-in_default c xs h =
    let g : slice_get c.args.self.now.stmts.items c.args.block.from ≡ Some c.in-Some.s = search rules in
    one_plain c.args.self.now.stmts.items xs c.args.block.from c.args.block.many c.in-Some.s c.if-block-ne1.false g c.in_default.not-If h

pub returns-in-None : goal.returns-in-None
returns-in-None c xs h =
    let g : length c.args.self.now.stmts.items ≤ c.args.block.from = search rules in
    none_plain c.args.self.now.stmts.items xs c.args.block.from c.args.block.many g h
