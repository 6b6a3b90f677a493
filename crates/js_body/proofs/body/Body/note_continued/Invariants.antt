use Rattle.js_body.specs.State.{continued_upto}
use Rattle.js_body.specs.Tells.{Runs}
use Rattle.js_body.proofs.body.Body.note_continued.Given as goal

abbrev pub invariant-loop-i : goal.invariant-loop-i
invariant-loop-i l = Runs l.initial.self l.self (continued_upto l.label l.i)
