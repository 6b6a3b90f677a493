use Rattle.std.proofs.Common.{◌≡◌, List, sym, ap, ◌∙◌}
use Rattle.std.specs.List.{filter_map}
use Rattle.go_load.specs.Readings as r
use Rattle.go_load.specs.Faults.{lexical_fault}
use Rattle.go_load.specs.Least.{first_in}
use Rattle.go_load.specs.ReadingView.{reading_view}
use Rattle.go_load.proofs.FaultLemmas.{first_at, first_next, past_end}
use Rattle.go_load.proofs.faults.first_lexical.Goals as goal

pub returns-in-Some : goal.returns-in-Some
returns-in-Some c =
    first_at reading_view lexical_fault c.args.readings.now c.loop-reading.reading-index c.reading-item.result c.in-Some.fault.now c.loop-reading-test.true c.reading-item.is c.in-Some.ensures
    ∙ ap first_in c.loop-reading.invariant

pub loop-reading-preserved : goal.loop-reading-preserved
loop-reading-preserved c =
    sym (first_next reading_view lexical_fault c.args.readings.now c.loop-reading.reading-index c.reading-item.result c.loop-reading-test.true c.reading-item.is c.in_default.ensures) ∙ c.loop-reading.invariant

pub returns : goal.returns
returns c =
    sym (ap (λ (xs : List r.Reading). first_in (filter_map lexical_fault xs)) (past_end reading_view c.args.readings.now c.loop-reading.reading-index c.loop-reading-test.false)) ∙ ap first_in c.loop-reading.invariant
