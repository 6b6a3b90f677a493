use Rattle.std.proofs.Common.{◌∙◌, ap, sym, [], ◌∷◌}
use Rattle.go_core.specs.Memory.{Value, Scalar}
use Rattle.go_values.proofs.ScalarLemmas.{truth_seen}
use Rattle.go_values.specs.ValuesSeen.{value_of}
use Rattle.go_partners.proofs.DoneLemmas.{received_both}
use Rattle.go_partners.proofs.exchanges.done.received_values.Goals as goal

pub returns : goal.returns
returns c = record {
  value = λ ts.
      let v = value_of ts c.args.x.now in
      ap (λ (w : Value). v ∷ w ∷ []) (c.in_ok-truth.ensures.value ts ∙ ap (λ (x : Scalar). x ∷ []) (truth_seen ts c.args.ok))
      ∙ sym (received_both c.args.count v c.args.ok c.if-count-eq0.false c.if-count-eq1.false);
}
