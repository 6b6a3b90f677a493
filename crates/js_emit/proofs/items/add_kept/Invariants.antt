use Rattle.std.proofs.Common.{length, take}
use Rattle.js_emit.specs.Items.{AddsTrees, kept, is_kept}
use Rattle.js_emit.proofs.items.add_kept.Given as goal

abbrev pub invariant-loop-n : goal.invariant-loop-n
invariant-loop-n l = AddsTrees l.pool (kept (is_kept l.reach.reached.items (length l.pool.items.items)) 0 (take l.n l.pool.items.items)) l.initial.items.items l.items.items
