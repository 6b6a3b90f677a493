use Rattle.std.proofs.Common.{ℕ, subst}
use Rattle.std.proofs.lemmas.Int.{to_z-of_z}
use Rattle.js_body.specs.State.{State, pushed}
use Rattle.js_body.specs.Tells.{Runs}
use Rattle.js_values.specs.Steps.{made_done}
use Rattle.js_values.specs.Values.{wide_tree}
use Rattle.js_values.proofs.constants.wide.Goals as goal

pub returns : goal.returns
returns c =
    let f = c.ranges.n in
    let w = simp to_z-of_z at c.wide_bits.ensures in
    subst (λ (n : ℕ). Runs c.args.b.now c.push.new.self (λ (s : State). pushed (wide_tree n) s)) w
    (made_done c.args.b.now c.halves-e.new.p c.push.new.self c.halves-e.result (wide_tree c.wide_bits.result) pushed c.halves-e.ensures c.push.ensures)
