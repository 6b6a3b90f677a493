use Rattle.std.proofs.Common.{◌∙◌, sym, ap, ℕ, List}
use Rattle.go_core.specs.Memory.{Value, read_cells}
use Rattle.go_values.specs.ValuesSeen.{value_of, memory_of}
use Rattle.go_values.specs.declared.values.scalar.Scalar.{Scalar}
use Rattle.go_slices.proofs.slices.append.elements_at.Goals as goal

pub returns : goal.returns
returns c = record {
  value = λ ts capacity f.
      let s = memory_of ts c.args.m.now in
      let base = c.args.base in
      let read =
      ap (value_of ts) c.in_ok-cells.ensures
      ∙ c.read_cells-read.ensures.value ts
      ∙ ap (λ (xs : List Scalar). read_cells base c.in_ok-places.places (value_of ts xs)) c.as_slice.ensures.value
      ∙ ap (λ (n : ℕ). read_cells base n s.cells) c.in_ok-places.ensures.value in
      ap (λ (v : Value). f v c.args.length) (sym read);
}
