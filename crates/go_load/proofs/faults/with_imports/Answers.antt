use Rattle.std.proofs.Common.{◌≡◌, ◌+◌, List, drop, sym, ap, ◌∙◌}
use Rattle.std.specs.Prelude.{Some, map, option_map}
use Rattle.gj_base.specs.declared.fault.Fault.{Fault}
use Rattle.go_syntax.specs.Tree as t
use Rattle.go_syntax.specs.View.{import_view}
use Rattle.go_load.specs.Faults.{import_faults}
use Rattle.go_load.specs.Least.{flaw_view, lesser, least_from}
use Rattle.go_load.proofs.FaultLemmas.{import_next, past_end}
use Rattle.go_load.proofs.faults.with_imports.Goals as goal

pub loop-i-preserved : goal.loop-i-preserved
loop-i-preserved c =
    let rest = import_faults c.args.number (map import_view (drop (c.loop-i.i-index + 1) c.args.imports.now)) in
    ap (λ (f : Fault). least_from (Some f) rest) (c.lesser.ensures ∙ ap (lesser (option_map flaw_view c.loop-i.least)) c.flaw_in.ensures)
    ∙ sym (import_next c.args.number c.args.imports.now c.loop-i.i-index c.i-item.result (option_map flaw_view c.loop-i.least) c.loop-i-test.true c.i-item.is) ∙ c.loop-i.invariant

pub returns : goal.returns
returns c =
    sym (ap (λ (xs : List t.Import). least_from (option_map flaw_view c.loop-i.least) (import_faults c.args.number xs)) (past_end import_view c.args.imports.now c.loop-i.i-index c.loop-i-test.false)) ∙ c.loop-i.invariant
