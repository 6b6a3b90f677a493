use Rattle.std.proofs.Common.{◌≡◌, drop}
use Rattle.js_tree.specs.Static.{can_break}
use Rattle.js_eval.specs.Faults.{arounds_of}
use Rattle.js_eval.proofs.fault.can_break.Given as goal

abbrev pub invariant-loop-a : goal.invariant-loop-a
invariant-loop-a l = can_break l.label (arounds_of (drop l.a-index l.around)) ≡ can_break l.label (arounds_of l.around)
