use Rattle.std.proofs.Common.{ℤ, subst, rules}
use Rattle.std.specs.Int.{w64, w128}
use Rattle.std.specs.Int.RustNames.{FitsSigned}
use Rattle.std.proofs.lemmas.Int.{to_z-of_z}
use Rattle.js_int.specs.Kinds.{has_halves}
use Rattle.js_body.specs.State.{State, number_pushed}
use Rattle.js_body.specs.Tells.{Runs}
use Rattle.js_values.specs.Steps.{then_done, else_done}
use Rattle.js_values.specs.Values.{wide_pushed, small_number}
use Rattle.js_values.proofs.constants.number.Goals as goal

pub returns-then-is_wide : goal.returns-then-is_wide
returns-then-is_wide c =
    let f : FitsSigned w128 c.args.n = c.ranges.n in
    let w = simp to_z-of_z at c.wide.ensures.1 in
    then_done c.args.b.now c.wide.new.b c.is_wide.result (λ (s : State). has_halves c.args.kind) (wide_pushed c.args.n) (number_pushed (small_number c.args.n)) (λ s t. c.is_wide.ensures) c.if-is_wide.true (c.wide.ensures.0, w)

pub returns-else-is_wide : goal.returns-else-is_wide
returns-else-is_wide c =
    let f : FitsSigned w128 c.args.n = c.ranges.n in
    let g : FitsSigned w64 c.small_number.result = search rules in
    let e = simp to_z-of_z at c.small_number.ensures in
    let w = simp to_z-of_z at c.push_number.ensures.1 in
    else_done c.args.b.now c.push_number.new.self c.is_wide.result (λ (s : State). has_halves c.args.kind) (wide_pushed c.args.n) (number_pushed (small_number c.args.n)) (λ s t. c.is_wide.ensures) c.if-is_wide.false
    (subst (λ (n : ℤ). Runs c.args.b.now c.push_number.new.self (number_pushed n)) e (c.push_number.ensures.0, w))
