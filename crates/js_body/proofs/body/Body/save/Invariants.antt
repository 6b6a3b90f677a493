use Rattle.js_pool.specs.Stands.{Grows}
use Rattle.js_body.proofs.body.Body.save.Given as goal

abbrev pub invariant-loop-i : goal.invariant-loop-i
invariant-loop-i l = Grows l.initial.self.pool l.self.pool
