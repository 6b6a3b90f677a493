use Rattle.std.proofs.Common.{◌∙◌, ◌++◌, ap, sym, arith, ℕ, List}
use Rattle.go_core.specs.Opened.{indexes_of}
use Rattle.go_core.specs.declared.node.CoreElements.{out-CoreElements}
use Rattle.go_state.specs.TasksSeen.{elements_from}
use Rattle.go_state.proofs.ListsLemmas.{elements_whole}
use Rattle.go_entries.proofs.IndexLemmas.{indexes_step, indexes_end}
use Rattle.go_entries.proofs.local_steps.operate.indexes.Goals as goal

pub elements-init : goal.elements-init
elements-init c = λ ts. ap (λ (is : List ℕ). is ++ indexes_of (elements_from ts c.args.elements.now 0)) c.new-found.ensures.items ∙ sym (ap indexes_of (elements_whole ts c.args.elements.now))

pub elements-preserved : goal.elements-preserved
elements-preserved c = λ ts.
    indexes_step ts c.args.elements.now c.elements.i c.index.result.now _ _ _
    (let counted = (out-CoreElements c.args.elements.now).items.ok.0 in omega (arith, c.elements-test.true, c.len-i-end.ensures, counted))
    c.index.ensures c.in_ok-push.ensures.items (c.elements.invariant ts)

pub returns : goal.returns
returns c = record {
  value = λ ts.
      indexes_end ts c.args.elements.now c.elements.i _ _
      (let counted = (out-CoreElements c.args.elements.now).items.ok.0 in omega (arith, c.elements-test.false, c.len-i-end.ensures, counted))
      (c.elements.invariant ts);
}
