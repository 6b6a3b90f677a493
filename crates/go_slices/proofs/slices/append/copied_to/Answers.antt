use Rattle.std.proofs.Common.{◌≡◌, ◌∙◌, ◌∷◌, ◌*◌, [], sym, ap, arith, min, take, ℕ, ℤ}
use Rattle.std.specs.Prelude.{pos}
use Rattle.std.specs.Int.{w128}
use Rattle.std.proofs.lemmas.Int.{ints}
use mir.Val.{to_z}
use Rattle.go_type.specs.Levels.{tree_of}
use Rattle.go_type.specs.Table.{places, names}
use Rattle.go_core.specs.Did.{gives}
use Rattle.go_core.specs.Layout.{shape_of, size}
use Rattle.go_core.specs.Memory as core
use Rattle.go_core.specs.Memory.{Value, with_written}
use Rattle.go_values.specs.ValuesSeen.{scalar_of, value_of}
use Rattle.go_values.specs.declared.values.scalar.Scalar.TheVariants.{Whole}
use Rattle.go_values.proofs.ScalarLemmas.{whole_seen}
use Rattle.go_slices.proofs.slices.append.copied_to.Goals as goal

pub returns : goal.returns
returns c =
    let w = c.args.c.now.table.now in
    let ts = places w in
    let shape = shape_of (names w) (tree_of ts c.args.t) in
    let count = min c.args.length c.args.more.count in
    let more = value_of ts c.args.more.cells.now in
    let p : to_z w128 count ≡ pos count = omega (arith, ints, c.ranges.length) in
    let number = c.in_ok-number.ensures.value ts ∙ ap (λ (x : core.Scalar). x ∷ []) (ap (λ (n : ℕ). scalar_of ts (Whole (to_z w128 n))) c.min-count.ensures ∙ whole_seen ts (to_z w128 count) ∙ ap (λ (z : ℤ). core.whole z) p) in
    let places_ = c.in_ok-places.ensures.value ∙ ap (λ (n : ℕ). n * c.in_ok-one.one) c.min-count.ensures ∙ ap (λ (n : ℕ). count * n) c.in_ok-one.ensures.value in
    let units = c.in_ok-units.ensures.value ∙ ap (λ (n : ℕ). n * c.in_ok-weight.weight) c.min-count.ensures ∙ ap (λ (n : ℕ). count * n) c.in_ok-weight.ensures.value in
    let cells = c.first_cells-cells.ensures.value ts ∙ ap (λ (n : ℕ). take n more) places_ in
    record {
      value = λ m capacity.
          sym (ap (λ (v : Value). gives (v ∷ []) (with_written m c.args.base (value_of ts c.first_cells-cells.result.now)) c.in_ok-units.units) number
          ∙ ap (λ (xs : Value). gives ((core.whole (pos count) ∷ []) ∷ []) (with_written m c.args.base xs) c.in_ok-units.units) cells
          ∙ ap (λ (n : ℕ). gives ((core.whole (pos count) ∷ []) ∷ []) (with_written m c.args.base (take (count * size shape) more)) n) units);
    }
