use Rattle.std.proofs.Common.{◌≡◌, drop}
use Rattle.std.specs.Prelude.{map}
use Rattle.std.specs.List.{list_any}
use Rattle.go_load.specs.Faults.{may_have_main}
use Rattle.go_load.specs.ReadingView.{reading_view}
use Rattle.go_load.proofs.faults.has_main.Given as goal

-- what is left has the same answer
abbrev pub invariant-loop-r : goal.invariant-loop-r
invariant-loop-r l = list_any may_have_main (map reading_view (drop l.r-index l.readings)) ≡ list_any may_have_main (map reading_view l.readings)
