use Rattle.js_body.specs.State.{State}
use Rattle.js_values.specs.Steps.{then_done, else_done, does_nothing}
use Rattle.js_values.specs.Numbers.{is_division, zero_refused}
use Rattle.js_values.proofs.numbers.guard.Goals as goal

pub returns-then-is_division : goal.returns-then-is_division
returns-then-is_division c =
    then_done c.args.b.now c.refuse_zero.new.b c.is_division.result (λ (s : State). is_division c.args.op) (zero_refused c.args.kind) (λ (s : State). s) (λ s t. c.is_division.ensures) c.if-is_division.true c.refuse_zero.ensures

pub returns-else-is_division : goal.returns-else-is_division
returns-else-is_division c =
    else_done c.args.b.now c.args.b.now c.is_division.result (λ (s : State). is_division c.args.op) (zero_refused c.args.kind) (λ (s : State). s) (λ s t. c.is_division.ensures) c.if-is_division.false (does_nothing c.args.b.now)
