use Rattle.std.proofs.Common.{take}
use Rattle.std.specs.Prelude.{map}
use Rattle.go_load.specs.Readings.{AreReadings}
use Rattle.go_load.specs.ReadingView.{reading_view}
use Rattle.go_load.proofs.reading.read_all.Given as goal

-- the readings so far
abbrev pub invariant-loop-i : goal.invariant-loop-i
invariant-loop-i l = AreReadings 0 (take l.i l.entries) (map reading_view l.readings.items)
