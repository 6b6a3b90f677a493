use Rattle.std.proofs.Common.{◌≡◌, ◌++◌, vec_len}
use Rattle.std.specs.Prelude.{map, reverse}
use Rattle.go_syntax.specs.View.{file_view}
use Rattle.go_load.specs.Readings.{trees_of}
use Rattle.go_load.specs.ReadingView.{reading_view}
use Rattle.go_load.proofs.judge.trees_of.Given as goal

-- the trees of what is left, and then those so far from the last on
abbrev pub invariant-loop-reading : goal.invariant-loop-reading
invariant-loop-reading l = trees_of (map reading_view l.readings.items) ++ map file_view (reverse l.trees.items) ≡ trees_of (map reading_view l.fn.readings.items)

abbrev pub decreases-loop-reading : goal.decreases-loop-reading
decreases-loop-reading l = vec_len l.readings
