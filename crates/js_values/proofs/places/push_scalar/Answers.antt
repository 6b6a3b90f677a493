use Rattle.std.proofs.Common.{Bool, not, ◌||◌, sym, subst, ◌∙◌}
use Rattle.js_body.specs.declared.body.Known.TheVariants as known
use Rattle.js_body.specs.State.{State, pushed, pushed_known}
use Rattle.js_body.specs.Tells.{Tells}
use Rattle.js_body.specs.StepLaws.{if_true, if_false}
use Rattle.js_values.proofs.places.push_scalar.Goals as goal

pub returns-then-is_set_later : goal.returns-then-is_set_later
returns-then-is_set_later c = (
  c.push.ensures.0,
  λ l t h s x.
      subst (λ (z : State). Tells c.push.new.self z) (if_true (c.args.h.boxed || not s.around.plain) (pushed t s) (pushed_known known.Variable t s) (sym (c.is_set_later.ensures s x) ∙ c.if-is_set_later.true)) (c.push.ensures.1 l t h s x),
)

pub returns-else-is_set_later : goal.returns-else-is_set_later
returns-else-is_set_later c = (
  c.push_known.ensures.0,
  λ l t h s x.
      subst (λ (z : State). Tells c.push_known.new.self z) (if_false (c.args.h.boxed || not s.around.plain) (pushed t s) (pushed_known known.Variable t s) (sym (c.is_set_later.ensures s x) ∙ c.if-is_set_later.false)) (c.push_known.ensures.1 l t h s x),
)
