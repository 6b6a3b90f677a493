use Rattle.std.proofs.Common.{true≢false, sym, ◌∙◌}
use Rattle.js_facts.specs.Held.{how}
use Rattle.js_values.specs.Steps.{is_scalar, and_left}
use Rattle.js_values.proofs.numbers.join_slice.Goals as goal

pub returns-then-is_split : goal.returns-then-is_split
returns-then-is_split c =
    (c.join.ensures, λ l s t w. absurd (true≢false (sym c.if-is_split.true ∙ c.is_split.ensures (and_left (is_scalar (how c.args.x)) (is_scalar (how c.args.y)) w))))

pub returns-else-is_split : goal.returns-else-is_split
returns-else-is_split c = (λ end g. g, λ l s t w. t)
