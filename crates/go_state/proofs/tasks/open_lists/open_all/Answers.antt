use Rattle.std.proofs.Common.{refl, ap, sym, arith, ◌+◌}
use Rattle.go_core.specs.Opened.{all_evaluated}
use Rattle.go_core.specs.CoreView.{expr_view}
use Rattle.go_core.specs.declared.node.CoreExprs.{out-CoreExprs}
use Rattle.go_state.specs.TasksSeen.{exprs_from}
use Rattle.go_state.specs.Weight.{expr_weight, exprs_weight}
use Rattle.go_state.proofs.ListsLemmas.{exprs_next, two_less}
use Rattle.go_state.proofs.tasks.open_lists.open_all.Goals as goal

pub returns-clause-value : goal.returns-clause-value
returns-clause-value c = λ ts rest.
    ap (λ es. all_evaluated es rest) (sym (exprs_next ts c.args.list.now (out-CoreExprs c.args.list.now).items.items c.args.at c.index.result.now refl (let counted = (out-CoreExprs c.args.list.now).items.ok.0 in omega (arith, c.if-at-len.false, c.len.ensures, counted)) c.index.ensures))

pub returns-clause-smaller : goal.returns-clause-smaller
returns-clause-smaller c = λ ts.
    two_less (expr_weight (expr_view ts c.index.result.now)) (exprs_weight (exprs_from ts c.args.list.now (c.args.at + 1))) (exprs_weight (exprs_from ts c.args.list.now c.args.at))
    (ap exprs_weight (exprs_next ts c.args.list.now (out-CoreExprs c.args.list.now).items.items c.args.at c.index.result.now refl (let counted = (out-CoreExprs c.args.list.now).items.ok.0 in omega (arith, c.if-at-len.false, c.len.ensures, counted)) c.index.ensures))
