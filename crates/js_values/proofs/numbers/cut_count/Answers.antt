use Rattle.js_pool.specs.Tree.{number}
use Rattle.js_int.specs.Kinds.{has_halves}
use Rattle.js_body.specs.State.{State}
use Rattle.js_values.specs.Steps.{then_done, else_done, does_nothing, on_last, last_done, sees1}
use Rattle.js_values.specs.Numbers.{low_or, size_tree}
use Rattle.js_values.proofs.numbers.cut_count.Goals as goal

pub returns-then-is_wide : goal.returns-then-is_wide
returns-then-is_wide c =
    then_done c.args.b.now c.push.new.self c.is_wide.result (λ (s : State). has_halves c.args.kind) (on_last (low_or (number 4294967295))) (λ (s : State). s) (λ s t. c.is_wide.ensures) c.if-is_wide.true
    (last_done c.args.b.now c.pop-y.new.self c.cut-e.new.p c.push.new.self c.pop-y.result c.cut-e.result (low_or (number 4294967295)) c.pop-y.ensures (sees1 _ _ _ _ _ c.cut-e.ensures) c.push.ensures)

pub returns-else-is_wide : goal.returns-else-is_wide
returns-else-is_wide c =
    else_done c.args.b.now c.args.b.now c.is_wide.result (λ (s : State). has_halves c.args.kind) (on_last (low_or (number 4294967295))) (λ (s : State). s) (λ s t. c.is_wide.ensures) c.if-is_wide.false (does_nothing c.args.b.now)
