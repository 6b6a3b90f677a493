use Rattle.std.proofs.Common.{sym, ap, ◌∙◌, true≢false}
use Rattle.js_body.specs.State.{Around}
use Rattle.js_body.proofs.body.Body.open_slices.Goals as goal

pub returns-then-has_some : goal.returns-then-has_some
returns-then-has_some c = (
  c.open_those.ensures,
  λ l s t e. absurd (true≢false (sym c.if-has_some.true ∙ c.has_some.ensures (c.as_slice.ensures.value ∙ ap (λ (near : Around). near.opened) t.around_is ∙ e))),
)
