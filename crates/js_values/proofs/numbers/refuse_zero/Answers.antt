use Rattle.std.proofs.Common.{sym, ap, ◌∙◌}
use Rattle.js_body.specs.State.{State, last_value, panicked_if}
use Rattle.js_values.specs.Steps.{then_done, else_done, does_nothing, by_last, by_last_done}
use Rattle.js_values.specs.Numbers.{is_nonzero, zero_test}
use Rattle.js_values.proofs.numbers.refuse_zero.Goals as goal

pub returns-then-not-is_nonzero : goal.returns-then-not-is_nonzero
returns-then-not-is_nonzero c =
    else_done c.args.b.now c.panic_if.new.self c.is_nonzero.result (λ (s : State). is_nonzero (last_value s).known) (λ (s : State). s) (by_last (zero_test c.args.kind) (panicked_if 1))
    (λ s t. c.is_nonzero.ensures ∙ ap is_nonzero (c.last-y.ensures s t).known) c.if-not-is_nonzero.true
    (by_last_done c.args.b.now c.is_zero-test.new.p c.panic_if.new.self c.last-y.result c.is_zero-test.result (zero_test c.args.kind) (panicked_if 1) c.last-y.ensures c.is_zero-test.ensures c.panic_if.ensures)

pub returns-else-not-is_nonzero : goal.returns-else-not-is_nonzero
returns-else-not-is_nonzero c =
    then_done c.args.b.now c.args.b.now c.is_nonzero.result (λ (s : State). is_nonzero (last_value s).known) (λ (s : State). s) (by_last (zero_test c.args.kind) (panicked_if 1))
    (λ s t. c.is_nonzero.ensures ∙ ap is_nonzero (c.last-y.ensures s t).known) c.if-not-is_nonzero.false (does_nothing c.args.b.now)
