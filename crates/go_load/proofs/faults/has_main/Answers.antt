use Rattle.std.proofs.Common.{◌≡◌, List, sym, ap, ◌∙◌}
use Rattle.std.specs.List.{list_any}
use Rattle.go_load.specs.Faults.{may_have_main}
use Rattle.go_load.specs.ReadingView.{reading_view}
use Rattle.go_load.proofs.FaultLemmas.{any_at, any_next, past_end}
use Rattle.go_load.proofs.faults.has_main.Goals as goal

pub returns-then-may_have_main : goal.returns-then-may_have_main
returns-then-may_have_main c = sym (any_at reading_view may_have_main c.args.readings.now c.loop-r.r-index c.r-item.result c.loop-r-test.true c.r-item.is (sym c.if-may_have_main.ensures)) ∙ c.loop-r.invariant

pub loop-r-preserved : goal.loop-r-preserved
loop-r-preserved c = sym (any_next reading_view may_have_main c.args.readings.now c.loop-r.r-index c.r-item.result c.loop-r-test.true c.r-item.is (sym c.if-may_have_main.ensures)) ∙ c.loop-r.invariant

pub returns : goal.returns
returns c = sym (ap (list_any may_have_main) (past_end reading_view c.args.readings.now c.loop-r.r-index c.loop-r-test.false)) ∙ c.loop-r.invariant
