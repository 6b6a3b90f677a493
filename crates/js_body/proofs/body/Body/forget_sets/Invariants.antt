use Rattle.js_body.specs.Tells.{Runs}
use Rattle.js_body.proofs.body.Body.forget_sets.Given as goal

abbrev pub invariant-sets : goal.invariant-sets
invariant-sets l = Runs l.fn.self l.self (λ s. s)
