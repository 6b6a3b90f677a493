use Rattle.std.proofs.Common.{◌≡◌, ◌++◌, Some, map, take}
use Rattle.js_steps.proofs.calls.function.fill.Given as goal

abbrev pub invariant-loop-v : goal.invariant-loop-v
invariant-loop-v l = l.slots.items ≡ l.initial.slots.items ++ map Some (take l.v-index l.values)
