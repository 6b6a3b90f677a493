use Rattle.std.proofs.Common.{◌∙◌, ◌++◌, ap, List}
use Rattle.go_core.specs.StepMemory.{repeated}
use Rattle.go_values.specs.ValuesSeen.{value_of}
use Rattle.go_values.specs.declared.values.scalar.Scalar.{Scalar}
use Rattle.go_slices.proofs.slices.fresh.repeated.Goals as goal

pub returns : goal.returns
returns c = record {
  value = λ ts.
      ap (value_of ts) (c.in_ok-copy.ensures ∙ c.as_slice.ensures.value)
      ∙ c.in_ok-push_repeated.ensures.value ts
      ∙ ap (λ (xs : List Scalar). value_of ts xs ++ repeated c.args.count (value_of ts c.args.zeros.now)) c.new-cells.ensures.items;
}
