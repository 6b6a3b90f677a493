use Rattle.std.proofs.Common.{◌≡◌, drop}
use Rattle.js_tree.specs.Value.{holds}
use Rattle.js_eval.specs.Seen.{names_of}
use Rattle.js_eval.proofs.names.holds.Given as goal

abbrev pub invariant-loop-name : goal.invariant-loop-name
invariant-loop-name l = holds l.x (names_of (drop l.name-index l.names)) ≡ holds l.x (names_of l.names)
