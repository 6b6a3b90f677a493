use Rattle.js_body.specs.Tells.{Runs}
use Rattle.js_body.proofs.body.Body.make_room.Given as goal

abbrev pub invariant-places : goal.invariant-places
invariant-places l = Runs l.fn.self l.self (λ s. s)
