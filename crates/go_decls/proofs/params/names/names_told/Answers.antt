use Rattle.std.proofs.Common.{◌+◌, List, subst, drop, map}
use Rattle.go_operands.specs.AnswerView.{flaw_view}
use Rattle.go_items.specs.declared.items.param.Grouped.{Grouped}
use Rattle.go_items.specs.ParamView.{grouped_view}
use Rattle.go_decls.proofs.ParamsSteps.{next_at, past}
use Rattle.go_decls.proofs.ParamsNameLemmas.{Left, left_first, left_step, left_last}
use Rattle.go_decls.proofs.params.names.names_told.Goals as goal

pub loop-p-init : goal.loop-p-init
loop-p-init c = λ w. left_first w (map grouped_view c.args.params.now) (map flaw_view c.args.flaws.now.items) c.new-seen.result c.new-seen.ensures

pub loop-p-preserved : goal.loop-p-preserved
loop-p-preserved c = λ w.
    let params = c.args.params.now in
    let before = map flaw_view c.args.flaws.now.items in
    let now = map flaw_view c.loop-p.flaws.items in
    left_step w (grouped_view c.p-item.result) (map grouped_view (drop (c.loop-p.p-index + 1) params)) (map grouped_view params) before now (map flaw_view c.and_name.new.flaws.items) c.loop-p.seen c.and_name.new.seen
    c.in_ok-and_name.ensures.told c.in_ok-and_name.ensures.seen
    (subst (λ (ps : List Grouped). Left w (map grouped_view ps) (map grouped_view params) before now c.loop-p.seen) (next_at params c.loop-p.p-index c.p-item.result c.loop-p-test.true c.p-item.is) (c.loop-p.invariant w))

pub returns : goal.returns
returns c = record {
  told = λ w.
      let params = c.args.params.now in
      let before = map flaw_view c.args.flaws.now.items in
      let now = map flaw_view c.loop-p.flaws.items in
      left_last w (map grouped_view params) before now c.loop-p.seen
      (subst (λ (ps : List Grouped). Left w (map grouped_view ps) (map grouped_view params) before now c.loop-p.seen) (past params c.loop-p.p-index c.loop-p-test.false) (c.loop-p.invariant w));
}
