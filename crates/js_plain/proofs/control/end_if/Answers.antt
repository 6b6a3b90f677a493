use Rattle.std.proofs.Common.{ℕ, Option, sym, ap}
use Rattle.js_body.specs.StepLaws.{parts_same}
use Rattle.js_plain.specs.Control.{if_ended_by}
use Rattle.js_plain.proofs.control.end_if.Goals as goal

pub returns-in-Some : goal.returns-in-Some
returns-in-Some c = (
  c.end_chain.ensures.0,
  λ l t h ls k s r n first. parts_same _ _ _ _ _ _ _ _ (ap (λ (e : Option ℕ). if_ended_by e c.args.c t ls c.args.mark.0 s) (sym c.in-Some.is)) (c.end_chain.ensures.1 l s r first),
)

pub returns-in-None : goal.returns-in-None
returns-in-None c = (
  c.say_if.ensures.0,
  λ l t h ls k s r n first. parts_same _ _ _ _ _ _ _ _ (ap (λ (e : Option ℕ). if_ended_by e c.args.c t ls c.args.mark.0 s) (sym c.in-None.is)) (c.say_if.ensures.1 l t h ls k s r n),
)
