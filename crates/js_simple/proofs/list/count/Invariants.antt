use Rattle.std.proofs.Common.{◌≡◌, ◌+◌}
use Rattle.js_code.specs.Parts.{exprs_at, trees_of}
use Rattle.js_simple.specs.Simple.{IsSomeCode}
use Rattle.js_simple.specs.Cells.{count_of}
use Rattle.js_simple.proofs.list.count.Given as goal

-- those that were passed, and those that are left
abbrev pub invariant-loop-turn : goal.invariant-loop-turn
invariant-loop-turn l = IsSomeCode l.code → l.turn + count_of (exprs_at (trees_of l.code) l.list) ≡ count_of (exprs_at (trees_of l.code) l.fn.first)
