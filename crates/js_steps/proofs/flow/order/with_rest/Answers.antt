use Rattle.js_steps.specs.FlowLaws.{last_goes}
use Rattle.js_steps.proofs.flow.order.with_rest.Goals as goal

pub returns-then-ends_at : goal.returns-then-ends_at
returns-then-ends_at c = record { keeps = last_goes c.args.stack.now.items c.args.state.now c.args.first c.args.rest (λ s. c.ends_at.ensures.value s c.if-ends_at.true) }

pub returns : goal.returns
returns c = record { keeps = c.wait.ensures.keeps c.args.state.now }
