use Rattle.js_facts.specs.Held.{how}
use Rattle.js_body.specs.State.{State}
use Rattle.js_values.specs.Steps.{then_done, else_done, does_nothing}
use Rattle.js_values.specs.Values.{is_text, character_encoded}
use Rattle.js_values.proofs.numbers.encode_to.Goals as goal

pub returns-then-is_text : goal.returns-then-is_text
returns-then-is_text c =
    then_done c.args.b.now c.encode_number.new.b c.is_text.result (λ (s : State). is_text (how c.args.to)) (character_encoded c.args.from) (λ (s : State). s) (λ s t. c.is_text.ensures) c.if-is_text.true c.encode_number.ensures

pub returns-else-is_text : goal.returns-else-is_text
returns-else-is_text c =
    else_done c.args.b.now c.args.b.now c.is_text.result (λ (s : State). is_text (how c.args.to)) (character_encoded c.args.from) (λ (s : State). s) (λ s t. c.is_text.ensures) c.if-is_text.false (does_nothing c.args.b.now)
