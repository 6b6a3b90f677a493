use Rattle.std.proofs.Common.{true≢false, sym, ◌∙◌}
use Rattle.js_facts.specs.Held.{how}
use Rattle.js_body.specs.State.{State}
use Rattle.js_values.specs.Steps.{is_scalar, on_two, always}
use Rattle.js_values.specs.Values.{same_tree}
use Rattle.js_values.proofs.compare.equal_other.Goals as goal

pub returns-then-is_described : goal.returns-then-is_described
returns-then-is_described c = (c.alike.ensures, λ l s t w. absurd (true≢false (sym c.if-is_described.true ∙ c.is_described.ensures w)))

pub returns-else-is_described : goal.returns-else-is_described
returns-else-is_described c = always c.args.b.now c.identical.new.b (λ (s : State). is_scalar (how c.args.held)) (on_two (same_tree c.args.negated)) c.identical.ensures
