use Rattle.std.proofs.Common.{◌≡◌, drop}
use Rattle.std.specs.Prelude.{map}
use Rattle.go_load.specs.Faults.{first_package}
use Rattle.go_load.specs.ReadingView.{reading_view}
use Rattle.go_load.proofs.faults.first_package.Given as goal

-- what is left has the same first name
abbrev pub invariant-loop-reading : goal.invariant-loop-reading
invariant-loop-reading l = first_package (map reading_view (drop l.reading-index l.readings)) ≡ first_package (map reading_view l.readings)
