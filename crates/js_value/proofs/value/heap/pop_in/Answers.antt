use Rattle.std.proofs.Common.{ap, ◌∙◌, arith}
use Rattle.js_value.specs.ValueSeen.{object_of, popped_parts}
use Rattle.js_value.proofs.ValueObjects.{popped_parts_are}
use Rattle.js_value.proofs.value.heap.pop_in.Goals as goal

pub returns-in-Items-clause-value : goal.returns-in-Items-clause-value
returns-in-Items-clause-value c =
    ap (λ o. popped_parts (object_of o)) c.in-Items.is
    ∙ popped_parts_are c.in-Items.items.len c.in-Items.items.items c.pop.new.self.items c.pop.result (omega (arith, c.in-Items.items.ok.0)) c.pop.ensures.rest c.pop.ensures.items
