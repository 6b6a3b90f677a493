use Rattle.js_body.specs.State.{settled_upto}
use Rattle.js_body.specs.Tells.{Runs}
use Rattle.js_body.proofs.body.Body.settle_variables.Given as goal

abbrev pub invariant-loop-i : goal.invariant-loop-i
invariant-loop-i l = Runs l.initial.self l.self (settled_upto l.i)
