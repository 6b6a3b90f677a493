use Rattle.std.proofs.Common.{◌≡◌, Bool, true, false, sym, ap, ◌∙◌}
use Rattle.js_body.specs.State.{has_slot, noted}
use Rattle.js_body.specs.Tells.{around}
use Rattle.js_body.specs.StepLaws.{if_true, if_false}
use Rattle.js_body.proofs.Steps.{parts_near}
use Rattle.js_body.proofs.body.Body.mention.Goals as goal

pub returns-then-has_slot : goal.returns-then-has_slot
returns-then-has_slot c =
    let b = c.args.self.now in
    let k : has_slot c.args.n b.results.items ≡ true = sym (c.has_slot.ensures ∙ ap (has_slot c.args.n) c.as_slice.ensures.value) ∙ c.if-has_slot.true in
    (λ end g. g, λ l s t. parts_near _ _ _ _ _ _ _ s (noted c.args.n) (ap (λ (m : Bool). record (around b) { mentions_results = m }) (if_true (has_slot c.args.n b.results.items) true b.mentions_results k)) t)

pub returns-else-has_slot : goal.returns-else-has_slot
returns-else-has_slot c =
    let b = c.args.self.now in
    let k : has_slot c.args.n b.results.items ≡ false = sym (c.has_slot.ensures ∙ ap (has_slot c.args.n) c.as_slice.ensures.value) ∙ c.if-has_slot.false in
    (λ end g. g, λ l s t. parts_near _ _ _ _ _ _ _ s (noted c.args.n) (ap (λ (m : Bool). record (around b) { mentions_results = m }) (if_false (has_slot c.args.n b.results.items) true b.mentions_results k)) t)
