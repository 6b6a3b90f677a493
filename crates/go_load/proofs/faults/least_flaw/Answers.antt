use Rattle.std.proofs.Common.{◌≡◌, ◌+◌, ℕ, List, drop, sym, ap, ◌∙◌}
use Rattle.std.specs.Prelude.{Option, Some, None, map, option_map}
use Rattle.gj_base.specs.declared.fault.Fault.{Fault}
use Rattle.go_load.specs.Readings as r
use Rattle.go_load.specs.ReadingView.{reading_view}
use Rattle.go_load.specs.Faults.{faults_from, main_faults}
use Rattle.go_load.specs.Least.{flaw_view, least_from}
use Rattle.go_load.proofs.FaultLemmas.{file_next, all_from, past_end}
use Rattle.go_load.proofs.faults.least_flaw.Goals as goal

pub loop-i-init : goal.loop-i-init
loop-i-init c =
    let rs = map reading_view c.args.readings.now in
    ap (λ (o : Option Fault). least_from o (faults_from c.first_package-first.result.now 0 rs)) c.main_flaw-least.ensures
    ∙ ap (λ (name : List ℕ). least_from (least_from None (main_faults rs)) (faults_from name 0 rs)) c.first_package-first.ensures ∙ sym (all_from rs)

pub loop-i-preserved : goal.loop-i-preserved
loop-i-preserved c =
    let rest = faults_from c.first_package-first.result.now (c.loop-i.i + 1) (map reading_view (drop (c.loop-i.i + 1) c.args.readings.now)) in
    ap (λ (o : Option Fault). least_from o rest) c.with_file-least.ensures
    ∙ sym (file_next c.first_package-first.result.now c.args.readings.now c.loop-i.i c.index-readings-i.result (option_map flaw_view c.loop-i.least) c.loop-i-test.true c.index-readings-i.is) ∙ c.loop-i.invariant

pub returns : goal.returns
returns c =
    sym (ap (λ (xs : List r.Reading). least_from (option_map flaw_view c.loop-i.least) (faults_from c.first_package-first.result.now c.loop-i.i xs)) (past_end reading_view c.args.readings.now c.loop-i.i c.loop-i-test.false)) ∙ c.loop-i.invariant
