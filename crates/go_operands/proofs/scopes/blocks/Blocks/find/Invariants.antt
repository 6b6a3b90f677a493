use Rattle.std.proofs.Common.{◌≡◌, ◌≤◌, length, map, drop, None}
use Rattle.go_operands.specs.Held.{seek}
use Rattle.go_operands.specs.Holds.{held}
use Rattle.go_operands.proofs.scopes.blocks.Blocks.find.Given as goal

abbrev pub invariant-loop-i : goal.invariant-loop-i
invariant-loop-i l = record { within : l.i ≤ length l.self.scopes.items; not_yet : seek l.name (map held (drop l.i l.self.scopes.items)) ≡ None }

abbrev pub decreases-loop-i : goal.decreases-loop-i
decreases-loop-i l = l.i
