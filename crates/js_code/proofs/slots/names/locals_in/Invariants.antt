use Rattle.std.proofs.Common.{◌≡◌, drop}
use Rattle.js_code.specs.Names.{names_of, with_names, distinct}
use Rattle.js_code.proofs.slots.names.locals_in.Given as goal

abbrev pub invariant-loop-x : goal.invariant-loop-x
invariant-loop-x l = with_names (names_of l.names.set.keys) (drop l.x-index l.x-items) ≡ distinct l.x-items
