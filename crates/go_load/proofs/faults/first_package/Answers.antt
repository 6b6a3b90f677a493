use Rattle.std.proofs.Common.{◌≡◌, List, sym, ap, ◌∙◌}
use Rattle.go_load.specs.Faults.{first_package}
use Rattle.go_load.specs.ReadingView.{reading_view}
use Rattle.go_load.proofs.FaultLemmas.{name_at, name_next, past_end}
use Rattle.go_load.proofs.faults.first_package.Goals as goal

pub returns-in-Some : goal.returns-in-Some
returns-in-Some c =
    name_at c.args.readings.now c.loop-reading.reading-index c.reading-item.result c.in-Some.name.now c.loop-reading-test.true c.reading-item.is c.in-Some.ensures ∙ c.loop-reading.invariant

pub loop-reading-preserved : goal.loop-reading-preserved
loop-reading-preserved c = sym (name_next c.args.readings.now c.loop-reading.reading-index c.reading-item.result c.loop-reading-test.true c.reading-item.is c.in_default.ensures) ∙ c.loop-reading.invariant

pub returns : goal.returns
returns c = sym (ap first_package (past_end reading_view c.args.readings.now c.loop-reading.reading-index c.loop-reading-test.false)) ∙ c.loop-reading.invariant
