use Rattle.js_int.specs.Kinds.{has_sign}
use Rattle.js_body.specs.State.{State, panicked_if}
use Rattle.js_values.specs.Steps.{then_done, else_done, does_nothing, by_last, by_last_done}
use Rattle.js_values.specs.Numbers.{negative_test}
use Rattle.js_values.proofs.numbers.refuse_negative.Goals as goal

pub returns-then-is_signed : goal.returns-then-is_signed
returns-then-is_signed c =
    then_done c.args.b.now c.panic_if.new.self c.is_signed.result (λ (s : State). has_sign c.args.kind) (by_last (negative_test c.args.kind) (panicked_if 5)) (λ (s : State). s) (λ s t. c.is_signed.ensures) c.if-is_signed.true
    (by_last_done c.args.b.now c.is_negative-test.new.p c.panic_if.new.self c.last-y.result c.is_negative-test.result (negative_test c.args.kind) (panicked_if 5) c.last-y.ensures c.is_negative-test.ensures c.panic_if.ensures)

pub returns-else-is_signed : goal.returns-else-is_signed
returns-else-is_signed c =
    else_done c.args.b.now c.args.b.now c.is_signed.result (λ (s : State). has_sign c.args.kind) (by_last (negative_test c.args.kind) (panicked_if 5)) (λ (s : State). s) (λ s t. c.is_signed.ensures) c.if-is_signed.false (does_nothing c.args.b.now)
