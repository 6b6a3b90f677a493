use Rattle.std.proofs.Common.{◌≡◌, ◌++◌, drop}
use Rattle.js_eval.specs.Seen.{names_of}
use Rattle.js_eval.proofs.declared.names_in.Given as goal

abbrev pub invariant-loop-x : goal.invariant-loop-x
invariant-loop-x l = names_of l.names.items ++ drop l.x-index l.x-items ≡ l.x-items
