use Rattle.std.proofs.Common.{◌≡◌, length, arith, ap}
use Rattle.js_body.specs.State.{Around}
use Rattle.js_plain.proofs.control.result_count.Goals as goal

pub returns : goal.returns
returns c s t =
    let b = c.args.b.now in
    let d : length b.results.items ≡ length s.around.results = ap (λ (n : Around). length n.results) t.around_is in
    omega (arith, d, b.results.ok.0)
