use Rattle.std.proofs.Common.{refl, ap, sym, arith, ◌+◌}
use Rattle.go_core.specs.Opened.{elements_first}
use Rattle.go_core.specs.CoreView.{expr_view}
use Rattle.go_core.specs.declared.node.CoreElement.{out-CoreElement}
use Rattle.go_core.specs.declared.node.CoreElements.{out-CoreElements}
use Rattle.go_state.specs.TasksSeen.{elements_from}
use Rattle.go_state.specs.Weight.{expr_weight, elements_weight}
use Rattle.go_state.proofs.ListsLemmas.{elements_next, two_less}
use Rattle.go_state.proofs.tasks.open_lists.open_elements.Goals as goal

pub returns-clause-value : goal.returns-clause-value
returns-clause-value c = λ ts rest.
    ap (λ es. elements_first es rest) (sym (elements_next ts c.args.list.now (out-CoreElements c.args.list.now).items.items c.args.at c.index.result.now refl (let counted = (out-CoreElements c.args.list.now).items.ok.0 in omega (arith, c.if-at-len.false, c.len.ensures, counted)) c.index.ensures))

pub returns-clause-smaller : goal.returns-clause-smaller
returns-clause-smaller c = λ ts.
    two_less (expr_weight (expr_view ts (out-CoreElement c.index.result.now).value)) (elements_weight (elements_from ts c.args.list.now (c.args.at + 1))) (elements_weight (elements_from ts c.args.list.now c.args.at))
    (ap elements_weight (elements_next ts c.args.list.now (out-CoreElements c.args.list.now).items.items c.args.at c.index.result.now refl (let counted = (out-CoreElements c.args.list.now).items.ok.0 in omega (arith, c.if-at-len.false, c.len.ensures, counted)) c.index.ensures))
