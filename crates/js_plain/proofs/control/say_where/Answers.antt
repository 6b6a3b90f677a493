use Rattle.std.proofs.Common.{ℕ, Option, sym, ap}
use Rattle.js_body.specs.StepLaws.{parts_same}
use Rattle.js_plain.specs.Control.{said_where}
use Rattle.js_plain.proofs.Blocks.{when_said}
use Rattle.js_plain.proofs.control.say_where.Goals as goal

pub returns-in-Some : goal.returns-in-Some
returns-in-Some c =
    let w = when_said c.args.b.now c.when.new.self c.args.test c.args.arm c.when.ensures in
    (w.0, λ l t h ls k s r. parts_same _ _ _ _ _ _ _ _ (ap (λ (e : Option ℕ). said_where e t ls s) (sym c.in-Some.is)) (w.1 l t h ls k s r))

pub returns-in-None : goal.returns-in-None
returns-in-None c = (λ end g. g, λ l t h ls k s r. parts_same _ _ _ _ _ _ _ _ (ap (λ (e : Option ℕ). said_where e t ls s) (sym c.in-None.is)) r)
