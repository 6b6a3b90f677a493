use Rattle.js_int.specs.Kinds.{has_halves}
use Rattle.js_body.specs.State.{State}
use Rattle.js_values.specs.Steps.{then_done, else_done}
use Rattle.js_values.specs.Values.{encoded, wide_encoded}
use Rattle.js_values.proofs.numbers.encode_number.Goals as goal

pub returns-then-is_wide : goal.returns-then-is_wide
returns-then-is_wide c = then_done c.args.b.now c.encode_wide.new.b c.is_wide.result (λ (s : State). has_halves c.args.from) wide_encoded encoded (λ s t. c.is_wide.ensures) c.if-is_wide.true c.encode_wide.ensures

pub returns-else-is_wide : goal.returns-else-is_wide
returns-else-is_wide c = else_done c.args.b.now c.encode.new.b c.is_wide.result (λ (s : State). has_halves c.args.from) wide_encoded encoded (λ s t. c.is_wide.ensures) c.if-is_wide.false c.encode.ensures
