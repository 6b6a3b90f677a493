use Rattle.std.proofs.Common.{refl, ap, sym, arith, ◌+◌}
use Rattle.go_core.specs.Opened.{pairs_first}
use Rattle.go_core.specs.CoreView.{expr_view}
use Rattle.go_core.specs.declared.node.CorePair.{out-CorePair}
use Rattle.go_core.specs.declared.node.CorePairs.{out-CorePairs}
use Rattle.go_state.specs.TasksSeen.{pairs_from}
use Rattle.go_state.specs.Weight.{expr_weight, pairs_weight}
use Rattle.go_state.proofs.ListsLemmas.{pairs_next, three_less}
use Rattle.go_state.proofs.tasks.open_lists.open_pairs.Goals as goal

pub returns-clause-value : goal.returns-clause-value
returns-clause-value c = λ ts rest.
    ap (λ es. pairs_first es rest) (sym (pairs_next ts c.args.list.now (out-CorePairs c.args.list.now).items.items c.args.at c.index-pair.result.now refl (let counted = (out-CorePairs c.args.list.now).items.ok.0 in omega (arith, c.if-at-len.false, c.len.ensures, counted)) c.index-pair.ensures))

pub returns-clause-smaller : goal.returns-clause-smaller
returns-clause-smaller c = λ ts.
    three_less (expr_weight (expr_view ts (out-CorePair c.index-pair.result.now).key)) (expr_weight (expr_view ts (out-CorePair c.index-pair.result.now).value)) (pairs_weight (pairs_from ts c.args.list.now (c.args.at + 1))) (pairs_weight (pairs_from ts c.args.list.now c.args.at))
    (ap pairs_weight (pairs_next ts c.args.list.now (out-CorePairs c.args.list.now).items.items c.args.at c.index-pair.result.now refl (let counted = (out-CorePairs c.args.list.now).items.ok.0 in omega (arith, c.if-at-len.false, c.len.ensures, counted)) c.index-pair.ensures))
