use Rattle.std.proofs.Common.{◌≡◌, ◌∙◌, ◌∷◌, ◌+◌, ◌*◌, ◌≤◌, ◌<◌, [], sym, ap, arith, ℕ}
use Rattle.std.proofs.lemmas.Bool.{lt-ltb, le-ltb, le-leb, lt-leb}
use Rattle.go_type.specs.Levels.{tree_of}
use Rattle.go_type.specs.Table.{places, names}
use Rattle.go_core.specs.Did.{gives, panics}
use Rattle.go_core.specs.Layout.{Shape, shape_of, size, weight}
use Rattle.go_core.specs.Memory as core
use Rattle.go_core.specs.Memory.{Memory, Value, read_cells, with_written}
use Rattle.go_core.specs.RunPanic.{bad_size}
use Rattle.go_core.specs.StepNumbers.{most_elements}
use Rattle.go_core.specs.StepSlices.{appended, appended_anew, new_capacity}
use Rattle.go_values.specs.ValuesSeen.{value_of, memory_of}
use Rattle.go_values.proofs.Steps.{goes}
use Rattle.go_slices.proofs.Steps.{stops, if_true, if_false}
use Rattle.go_slices.proofs.slices.append.appended_to.Goals as goal

module _ (s : Shape) (wanted base len capacity : ℕ) (more : Value) (count needed : ℕ) (m : Memory) (e : needed ≡ len + count) where
  in_place : needed ≤ capacity → appended s wanted (core.slice base len capacity ∷ []) more count m
      ≡ gives ((core.slice base needed capacity ∷ []) ∷ []) (with_written m (base + len * size s) more) (count * weight s)
  in_place h =
      if_true _ _ _ (le-leb (len + count) capacity (omega (arith, e, h)))
      ∙ ap (λ (n : ℕ). gives ((core.slice base n capacity ∷ []) ∷ []) (with_written m (base + len * size s) more) (count * weight s)) (sym e)

  too_many : capacity < needed → most_elements < needed → appended s wanted (core.slice base len capacity ∷ []) more count m ≡ panics bad_size 0
  too_many h k =
      if_false _ _ _ (lt-leb (len + count) capacity (omega (arith, e, h)))
      ∙ if_true _ _ _ (lt-ltb most_elements (len + count) (omega (arith, e, k)))

  beside : capacity < needed → needed ≤ most_elements → appended s wanted (core.slice base len capacity ∷ []) more count m
      ≡ appended_anew s needed (new_capacity needed wanted) (read_cells base (len * size s) m.cells) more m
  beside h k =
      if_false _ _ _ (lt-leb (len + count) capacity (omega (arith, e, h)))
      ∙ if_false _ _ _ (le-ltb most_elements (len + count) (omega (arith, e, k)))
      ∙ ap (λ (n : ℕ). appended_anew s n (new_capacity n wanted) (read_cells base (len * size s) m.cells) more m) (sym e)

pub returns-then-needed-capacity : goal.returns-then-needed-capacity
returns-then-needed-capacity c =
    let w = c.args.c.now.table.now in
    let ts = places w in
    let s = memory_of ts c.args.m.now in
    record {
      value =
          goes ts s c.appended_in_place.result _ _
          (in_place (shape_of (names w) (tree_of ts c.args.t)) c.args.wanted c.args.base c.args.length c.args.capacity (value_of ts c.args.more.cells.now) c.args.more.count c.in_ok-needed.needed s c.in_ok-needed.ensures.value (omega (arith, c.if-needed-capacity.true)))
          (c.appended_in_place.ensures.value s);
    }

pub returns-then-needed-gt-MOST_ELEMENTS : goal.returns-then-needed-gt-MOST_ELEMENTS
returns-then-needed-gt-MOST_ELEMENTS c = record {
  value =
      let w = c.args.c.now.table.now in
      let ts = places w in
      stops c.too_big.result _ _
      (too_many (shape_of (names w) (tree_of ts c.args.t)) c.args.wanted c.args.base c.args.length c.args.capacity (value_of ts c.args.more.cells.now) c.args.more.count c.in_ok-needed.needed (memory_of ts c.args.m.now) c.in_ok-needed.ensures.value (omega (arith, c.if-needed-capacity.false)) (omega (arith, c.if-needed-gt-MOST_ELEMENTS.true)))
      c.too_big.ensures.value;
}

pub returns : goal.returns
returns c =
    let w = c.args.c.now.table.now in
    let ts = places w in
    let s = memory_of ts c.args.m.now in
    record {
      value =
          goes ts s c.appended_beside.result _ _
          (beside (shape_of (names w) (tree_of ts c.args.t)) c.args.wanted c.args.base c.args.length c.args.capacity (value_of ts c.args.more.cells.now) c.args.more.count c.in_ok-needed.needed s c.in_ok-needed.ensures.value (omega (arith, c.if-needed-capacity.false)) (omega (arith, c.if-needed-gt-MOST_ELEMENTS.false)))
          c.appended_beside.ensures.value;
    }
