use Rattle.std.proofs.Common.{arith}
use Rattle.js_pool.specs.Stands.{opened}
use Rattle.js_body.specs.Tells.{around}
use Rattle.js_body.specs.StepLaws.{parts_depth}
use Rattle.js_body.proofs.body.Body.depth.Goals as goal

pub returns : goal.returns
returns c s t =
    let b = c.args.self.now in
    let d = parts_depth b.pool (opened b.pool) b.stack.items b.temps b.declared.items (around b) s t in
    omega (arith, d, b.stack.ok.0)
