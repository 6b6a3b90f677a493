use Rattle.std.proofs.Common.{◌≡◌, Bool, true, true≢false, not, sym, subst, ◌∙◌}
use Rattle.js_values.proofs.expr.count_of.Goals as goal

pub returns-then-is_shift : goal.returns-then-is_shift
returns-then-is_shift c = (c.count.ensures.0, λ l s t w. absurd (true≢false (sym (subst (λ (b : Bool). not b ≡ true) (sym c.is_shift.ensures ∙ c.if-is_shift.true) w))))

pub returns-else-is_shift : goal.returns-else-is_shift
returns-else-is_shift c = (λ end g. g, λ l s t w. t)
