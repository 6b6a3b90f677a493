use Rattle.std.proofs.Common.{◌∙◌, sym, ap}
use Rattle.go_core.specs.Control.{all_produced}
use Rattle.go_state.proofs.Steps.{if_true, if_false}
use Rattle.go_state.proofs.ranges.next.entries_over.Goals as goal

pub returns-then-all_produced : goal.returns-then-all_produced
returns-then-all_produced c = record {
  value = λ ts p g.
      if_true _ _ _ (ap (all_produced p g c.args.produced.now c.args.since) (sym (c.entries_of.ensures.value ts p g)) ∙ sym (c.all_produced.ensures.value ts p g) ∙ c.if-all_produced.true);
}

pub returns-else-all_produced : goal.returns-else-all_produced
returns-else-all_produced c = record {
  value = λ ts p g.
      if_false _ _ _ (ap (all_produced p g c.args.produced.now c.args.since) (sym (c.entries_of.ensures.value ts p g)) ∙ sym (c.all_produced.ensures.value ts p g) ∙ c.if-all_produced.false);
}
