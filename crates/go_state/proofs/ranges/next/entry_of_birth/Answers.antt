use Rattle.std.proofs.Common.{◌∙◌, ap, subst}
use Rattle.std.specs.Prelude.{Option}
use Rattle.go_core.specs.Control.{entry_born, entry_next}
use Rattle.go_core.specs.Memory as core
use Rattle.go_state.specs.RangesFound.{NextFound}
use Rattle.go_state.proofs.ranges.next.entry_of_birth.Goals as goal

pub returns : goal.returns
returns c = record {
  value = λ ts p g.
      subst (λ (o : Option core.Entry). NextFound p g ts c.entry_next.result (entry_next p g c.args.name c.args.birth c.args.produced.now c.args.since o))
      (c.entry_born-found.ensures.value ts p g ∙ ap (entry_born p g c.args.birth c.args.produced.now) (c.entries_of.ensures.value ts p g))
      (c.entry_next.ensures.value ts p g);
}
