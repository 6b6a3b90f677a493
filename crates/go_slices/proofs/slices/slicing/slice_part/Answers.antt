use Rattle.std.proofs.Common.{◌∙◌, ◌+◌, ◌*◌, ◌-◌, sym, ap, ℕ}
use Rattle.go_type.specs.Table.{places}
use Rattle.go_core.specs.Did.{value_of}
use Rattle.go_core.specs.Memory as core
use Rattle.go_values.proofs.ScalarLemmas.{slice_seen}
use Rattle.go_values.proofs.Steps.{goes}
use Rattle.go_slices.proofs.slices.slicing.slice_part.Goals as goal

pub returns : goal.returns
returns c =
    let ts = places c.args.c.now.table.now in
    let length = c.args.part.high - c.args.part.low in
    let capacity = c.args.part.limit - c.args.part.low in
    let place = c.in_ok-place.ensures.value ∙ ap (λ (n : ℕ). c.args.base + n) (c.in_ok-offset.ensures.value ∙ ap (λ (n : ℕ). c.args.part.low * n) c.in_ok-one.ensures.value) in
    record {
      value = λ m.
          goes ts m c.gives_one.result _ _
          (ap (λ (n : ℕ). value_of m (core.slice n length capacity) 0) (sym place)
          ∙ ap (λ (n : ℕ). value_of m (core.slice c.in_ok-place.place n capacity) 0) (sym c.saturating_sub.ensures)
          ∙ ap (λ (n : ℕ). value_of m (core.slice c.in_ok-place.place c.saturating_sub.result n) 0) (sym c.saturating_sub-2.ensures)
          ∙ ap (λ (x : core.Scalar). value_of m x 0) (sym (slice_seen ts c.in_ok-place.place c.saturating_sub.result c.saturating_sub-2.result)))
          (c.gives_one.ensures.value ts m);
    }
