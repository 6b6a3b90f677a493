use Rattle.std.proofs.Common.{◌∙◌, sym, ap, eq-eqb}
use Rattle.std.specs.Prelude.{◌&&◌, Bool, not}
use Rattle.go_core.specs.Control.{is_in}
use Rattle.go_state.proofs.ranges.entries.is_left.Goals as goal

pub returns-then-entry-birth : goal.returns-then-entry-birth
returns-then-entry-birth c = record {
  value = λ p g.
      ap not (c.is_in.ensures.value p g) ∙ sym (ap (λ (b : Bool). b && not (is_in p g c.args.birth c.args.produced.now)) (eq-eqb c.args.entry.birth c.args.birth c.if-entry-birth.true));
}
