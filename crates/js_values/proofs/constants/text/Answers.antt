use Rattle.std.proofs.Common.{[], length, nat_lt}
use Rattle.js_body.specs.State.{State, panicked, panic_tree}
use Rattle.js_values.specs.Steps.{then_done, else_done, then_does}
use Rattle.js_values.specs.Values.{text_pushed}
use Rattle.js_values.proofs.constants.text.Goals as goal

pub returns-then-is_long : goal.returns-then-is_long
returns-then-is_long c =
    then_done c.args.b.now c.push_text.new.b c.is_long.result (λ (s : State). nat_lt 268435456 (length c.args.s.now)) (λ (s : State). text_pushed [] (panicked (panic_tree 6) s)) (text_pushed c.args.s.now) (λ s t. c.is_long.ensures) c.if-is_long.true
    (then_does c.args.b.now c.panic.new.self c.push_text.new.b (panicked (panic_tree 6)) (text_pushed []) c.panic.ensures c.push_text.ensures)

pub returns-else-is_long : goal.returns-else-is_long
returns-else-is_long c =
    else_done c.args.b.now c.push_text-else-is_long.new.b c.is_long.result (λ (s : State). nat_lt 268435456 (length c.args.s.now)) (λ (s : State). text_pushed [] (panicked (panic_tree 6) s)) (text_pushed c.args.s.now) (λ s t. c.is_long.ensures) c.if-is_long.false
    c.push_text-else-is_long.ensures
