use Rattle.std.proofs.Common.{◌≡◌, drop}
use Rattle.js_tree.specs.Value.{holds}
use Rattle.js_eval.proofs.fault.is_one_of.Given as goal

abbrev pub invariant-loop-name : goal.invariant-loop-name
invariant-loop-name l = holds l.x (drop l.name-index l.names) ≡ holds l.x l.names
