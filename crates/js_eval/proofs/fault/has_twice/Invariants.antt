use Rattle.std.proofs.Common.{◌≡◌, drop}
use Rattle.js_tree.specs.Static.{has_twice}
use Rattle.js_eval.proofs.fault.has_twice.Given as goal

abbrev pub invariant-loop-i : goal.invariant-loop-i
invariant-loop-i l = has_twice (drop l.i l.names) ≡ has_twice l.names
