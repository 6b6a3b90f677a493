use Rattle.std.proofs.Common.{◌∙◌, ◌*◌, sym, ap, ℕ, List}
use Rattle.go_type.specs.Levels.{tree_of}
use Rattle.go_type.specs.Table.{places, names}
use Rattle.go_core.specs.Layout.{shape_of}
use Rattle.go_core.specs.Memory.{Value, read_cells}
use Rattle.go_core.specs.StepSlices.{appended_anew, new_capacity}
use Rattle.go_values.specs.ValuesSeen.{value_of, memory_of}
use Rattle.go_values.specs.declared.values.scalar.Scalar.{Scalar}
use Rattle.go_values.proofs.Steps.{goes}
use Rattle.go_slices.proofs.slices.append.appended_beside.Goals as goal

pub returns : goal.returns
returns c =
    let w = c.args.c.now.table.now in
    let ts = places w in
    let s = memory_of ts c.args.m.now in
    let shape = shape_of (names w) (tree_of ts c.args.t) in
    let base = c.args.base in
    let more = value_of ts c.args.more.cells.now in
    let places_ = c.in_ok-places.ensures.value ∙ ap (λ (n : ℕ). c.args.length * n) c.in_ok-one.ensures.value in
    let old =
    c.read_cells-old.ensures.value ts
    ∙ ap (λ (xs : List Scalar). read_cells base c.in_ok-places.places (value_of ts xs)) c.as_slice.ensures.value
    ∙ ap (λ (n : ℕ). read_cells base n s.cells) places_ in
    record {
      value =
          goes ts s c.appended_anew.result _ _
          (ap (λ (v : Value). appended_anew shape c.args.needed (new_capacity c.args.needed c.args.wanted) v more s) (sym old)
          ∙ ap (λ (n : ℕ). appended_anew shape c.args.needed n (value_of ts c.read_cells-old.result.now) more s) (sym c.new_capacity-capacity.ensures.value))
          c.appended_anew.ensures.value;
    }
