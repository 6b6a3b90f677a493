use Rattle.std.proofs.Common.{true≢false, sym, subst, ◌∙◌}
use Rattle.js_body.specs.declared.body.Home.{Home}
use Rattle.js_body.specs.State.{held_type}
use Rattle.js_body.specs.Tells.{Tells}
use Rattle.js_values.specs.Steps.{scalar_no_block}
use Rattle.js_values.specs.Exprs.{scalar_read}
use Rattle.js_values.proofs.places.read_local.Goals as goal

pub returns-then-is_block : goal.returns-then-is_block
returns-then-is_block c = (c.read_block.ensures, λ l s t w. absurd (true≢false (sym c.if-is_block.true ∙ c.is_block.ensures s t ∙ scalar_no_block (held_type c.args.t s) w)))

pub returns-else-is_block : goal.returns-else-is_block
returns-else-is_block c = (
  c.read_scalar.ensures.0,
  λ l s t w. subst (λ (h : Home). Tells c.read_scalar.new.b (scalar_read h s)) (c.home-h.ensures s t) (c.read_scalar.ensures.1 l s t),
)
