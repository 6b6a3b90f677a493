use Rattle.js_body.specs.Tells.{Runs}
use Rattle.js_plain.specs.Control.{values_upto}
use Rattle.js_plain.proofs.control.list_values.Given as goal

abbrev pub invariant-loop-i : goal.invariant-loop-i
invariant-loop-i l = Runs l.initial.b l.b (values_upto l.i)
