use Rattle.std.proofs.Common.{◌∙◌, ◌∷◌, [], sym, ap, Bool}
use Rattle.go_core.specs.Memory as core
use Rattle.go_core.specs.Memory.{Value}
use Rattle.go_core.specs.StepMaps.{with_ok}
use Rattle.go_values.specs.ValuesSeen.{value_of}
use Rattle.go_values.proofs.ScalarLemmas.{truth_seen}
use Rattle.go_slices.proofs.maps.maps.with_ok.Goals as goal

pub returns-in_ok-truth : goal.returns-in_ok-truth
returns-in_ok-truth c = record {
  value = λ ts.
      let v = value_of ts c.args.value.now in
      ap (λ (x : Value). v ∷ x ∷ []) (c.in_ok-truth.ensures.value ts ∙ ap (λ (x : core.Scalar). x ∷ []) (truth_seen ts c.args.found))
      ∙ sym (ap (λ (b : Bool). with_ok b v c.args.found) c.if-ok.true);
}

pub returns-else-ok : goal.returns-else-ok
returns-else-ok c = record { value = λ ts. sym (ap (λ (b : Bool). with_ok b (value_of ts c.args.value.now) c.args.found) c.if-ok.false) }
