use Rattle.std.proofs.Common.{◌≡◌, drop}
use Rattle.std.specs.Prelude.{map}
use Rattle.go_load.specs.Faults.{syntax_faults}
use Rattle.go_load.specs.ReadingView.{reading_view}
use Rattle.go_load.proofs.faults.first_syntax.Given as goal

-- what is left has the same faults
abbrev pub invariant-loop-reading : goal.invariant-loop-reading
invariant-loop-reading l = syntax_faults (map reading_view (drop l.reading-index l.readings)) ≡ syntax_faults (map reading_view l.readings)
