use Rattle.std.proofs.Common.{◌≡◌, length}
use Rattle.js_code.specs.Parts.{trees_of}
use Rattle.js_simple.specs.Simple.{AreMarks}
use Rattle.js_simple.proofs.marks.Marks.of.Given as goal

-- as many marks as parts were seen, and each is right
abbrev pub invariant-loop-i : goal.invariant-loop-i
invariant-loop-i l = (length l.simple.items ≡ l.i) × AreMarks (trees_of l.code) l.simple.items
