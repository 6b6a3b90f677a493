use Rattle.std.proofs.Common.{◌≡◌, ◌≤◌, length, map, take}
use Rattle.std.specs.Prelude.{reverse}
use Rattle.go_typing.specs.Statements.{innermost}
use Rattle.go_walk.specs.Left.{target_of}
use Rattle.go_walk.proofs.labels.target.Targets.innermost.Given as goal

abbrev pub invariant-loop-i : goal.invariant-loop-i
invariant-loop-i l = record {
  within : l.i ≤ length l.self.items.items;
  left : innermost l.loops (reverse (map target_of (take l.i l.self.items.items))) ≡ innermost l.loops (reverse (map target_of l.self.items.items));
}

abbrev pub decreases-loop-i : goal.decreases-loop-i
decreases-loop-i l = l.i
