use Rattle.std.proofs.Common.{◌≡◌, ◌∙◌, ◌++◌, ◌*◌, ap, arith, length, ℕ, List}
use Rattle.go_type.specs.Levels.{tree_of}
use Rattle.go_type.specs.Table.{places, names}
use Rattle.go_core.specs.Layout.{shape_of, size}
use Rattle.go_core.specs.Memory.{Value}
use Rattle.go_core.specs.StepMemory.{with_elements, repeated}
use Rattle.go_values.specs.ValuesSeen.{value_of, values_of}
use Rattle.go_values.specs.declared.values.scalar.Scalar.{Scalar}
use Rattle.go_slices.proofs.CompositesListLemmas.{refilled}
use Rattle.go_slices.proofs.composites.build.built_elements.Goals as goal

pub returns : goal.returns
returns c =
    let w = c.args.c.now.table.now in
    let ts = places w in
    let is = c.args.indexes.now in
    let vs = values_of ts c.args.vs.now in
    let xs = c.put_elements.new.cells in
    let old = c.push_repeated.new.cells.items in
    let n = c.push_repeated.new.cells.len in
    let count : length old ≡ n = omega (arith, ap length c.as_mut_slice.ensures.value, c.as_mut_slice.ensures.len) in
    let same : length xs ≡ n = omega (arith, ap length c.as_mut_slice.ensures.value, c.as_mut_slice.ensures.len, c.put_elements.auto.cells) in
    let made =
    ap (value_of ts) c.as_mut_slice.ensures.value
    ∙ c.in_ok-push_repeated.ensures.value ts
    ∙ ap (λ (ys : List Scalar). value_of ts ys ++ repeated c.args.count (value_of ts c.in_ok-zeros.zeros.now)) c.new-cells.ensures.items
    ∙ ap (λ (ys : Value). repeated c.args.count ys) c.in_ok-zeros.ensures.value in
    record {
      value =
          ap (value_of ts) (c.in_ok-copy.ensures ∙ c.as_slice.ensures.value ∙ refilled n xs old same count)
          ∙ c.in_ok-put_elements.ensures.value ts
          ∙ ap (λ (k : ℕ). with_elements (λ i. i * k) is vs (value_of ts c.as_mut_slice.result.now)) c.in_ok-one_size.ensures.value
          ∙ ap (λ (ys : Value). with_elements (λ i. i * size (shape_of (names w) (tree_of ts c.args.t))) is vs ys) made;
    }
