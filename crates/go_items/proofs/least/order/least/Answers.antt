use Rattle.std.proofs.Common.{◌∙◌, ◌+◌, sym, ap, List, drop, map}
use Rattle.go_typing.specs.Answer as typing
use Rattle.go_operands.specs.AnswerView.{flaw_view}
use Rattle.go_items.specs.Shown.{shown, least_after}
use Rattle.go_items.proofs.LeastLemmas.{next_at}
use Rattle.go_items.proofs.least.order.least.Goals as goal

pub loop-one-preserved : goal.loop-one-preserved
loop-one-preserved c =
    c.lesser.ensures.value (map flaw_view (drop (c.loop-one.one-index + 1) c.args.flaws.now))
    ∙ sym (ap (λ (fs : List typing.Flaw). least_after (shown c.loop-one.found) fs) (next_at c.args.flaws.now c.loop-one.one-index c.one-item.result c.loop-one-test.true c.one-item.is))
    ∙ c.loop-one.invariant
