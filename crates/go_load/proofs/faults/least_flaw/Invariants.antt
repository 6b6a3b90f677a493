use Rattle.std.proofs.Common.{◌≡◌, drop}
use Rattle.std.specs.Prelude.{map, option_map, None}
use Rattle.go_load.specs.Faults.{faults_from, load_faults}
use Rattle.go_load.specs.Least.{flaw_view, least_from}
use Rattle.go_load.specs.ReadingView.{reading_view}
use Rattle.go_load.proofs.faults.least_flaw.Given as goal

-- the least so far and what is left have the same least
abbrev pub invariant-loop-i : goal.invariant-loop-i
invariant-loop-i l = least_from (option_map flaw_view l.least) (faults_from l.first l.i (map reading_view (drop l.i l.readings))) ≡ least_from None (load_faults (map reading_view l.readings))
