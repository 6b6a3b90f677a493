use Rattle.std.proofs.Common.{◌≡◌, List, sym, ap, ◌∙◌}
use Rattle.std.specs.List.{list_any}
use Rattle.go_load.specs.Faults.{is_main}
use Rattle.go_syntax.specs.View.{decl_view}
use Rattle.go_load.proofs.FaultLemmas.{any_at, any_next, past_end}
use Rattle.go_load.proofs.faults.declares_main.Goals as goal

pub returns-then-is_main : goal.returns-then-is_main
returns-then-is_main c = sym (any_at decl_view is_main c.args.decls.now c.loop-d.d-index c.d-item.result c.loop-d-test.true c.d-item.is (sym c.if-is_main.ensures)) ∙ c.loop-d.invariant

pub loop-d-preserved : goal.loop-d-preserved
loop-d-preserved c = sym (any_next decl_view is_main c.args.decls.now c.loop-d.d-index c.d-item.result c.loop-d-test.true c.d-item.is (sym c.if-is_main.ensures)) ∙ c.loop-d.invariant

pub returns : goal.returns
returns c = sym (ap (list_any is_main) (past_end decl_view c.args.decls.now c.loop-d.d-index c.loop-d-test.false)) ∙ c.loop-d.invariant
