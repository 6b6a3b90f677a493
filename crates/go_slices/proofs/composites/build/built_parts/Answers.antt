use Rattle.std.proofs.Common.{◌≡◌, ◌∙◌, ap, arith, rules, length}
use Rattle.go_type.specs.Levels.{tree_of}
use Rattle.go_type.specs.Table.{places, names}
use Rattle.go_core.specs.Layout.{shape_of}
use Rattle.go_core.specs.Memory.{Value}
use Rattle.go_core.specs.StepMemory.{with_elements, part_offset}
use Rattle.go_values.specs.ValuesSeen.{value_of, values_of}
use Rattle.go_slices.proofs.CompositesListLemmas.{refilled}
use Rattle.go_slices.proofs.composites.build.built_parts.Goals as goal

pub returns : goal.returns
returns c =
    let w = c.args.c.now.table.now in
    let ts = places w in
    let f = part_offset (shape_of (names w) (tree_of ts c.args.t)) in
    let xs = c.put_parts.new.cells in
    let old = c.extend_from_slice.new.self.items in
    let n = c.extend_from_slice.new.self.len in
    let count : length old ≡ n = omega (arith, ap length c.as_mut_slice.ensures.value, c.as_mut_slice.ensures.len) in
    let same : length xs ≡ n = omega (arith, ap length c.as_mut_slice.ensures.value, c.as_mut_slice.ensures.len, c.put_parts.auto.cells) in
    let e : old ≡ c.in_ok-zeros.zeros.now = search rules in
    let made = ap (value_of ts) (c.as_mut_slice.ensures.value ∙ e) ∙ c.in_ok-zeros.ensures.value in
    record {
      value =
          ap (value_of ts) (c.in_ok-copy.ensures ∙ c.as_slice.ensures.value ∙ refilled n xs old same count)
          ∙ c.in_ok-put_parts.ensures.value
          ∙ ap (λ (ys : Value). with_elements f c.args.indexes.now (values_of ts c.args.vs.now) ys) made;
    }
