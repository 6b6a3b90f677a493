use Rattle.std.proofs.Common.{◌≡◌, drop}
use Rattle.js_tree.specs.Static.{least}
use Rattle.js_eval.specs.Faults.{least_more}
use Rattle.js_eval.proofs.fault.least.Given as goal

abbrev pub invariant-loop-at : goal.invariant-loop-at
invariant-loop-at l = least_more l.found (drop l.at-index l.faults) ≡ least l.faults
