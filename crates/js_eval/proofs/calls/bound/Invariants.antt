use Rattle.std.proofs.Common.{◌≡◌, ◌≤◌, ◌++◌, drop, length}
use Rattle.js_tree.specs.Evaluate.{bound}
use Rattle.js_value.specs.ValueSeen.{entries_of, values_of}
use Rattle.js_eval.proofs.calls.bound.Given as goal

abbrev pub invariant-loop-i : goal.invariant-loop-i
invariant-loop-i l =
    (l.i ≤ length l.values)
    × (entries_of l.locals.items ++ bound (drop l.i l.params) (values_of (drop l.i l.values)) ≡ bound l.params (values_of l.values))
