use Rattle.std.proofs.Common.{◌∙◌, ◌∷◌, ◌+◌, ◌*◌, [], sym, ap, ℕ}
use Rattle.go_type.specs.Levels.{tree_of}
use Rattle.go_type.specs.Table.{places, names}
use Rattle.go_core.specs.Did.{gives}
use Rattle.go_core.specs.Layout.{shape_of, size}
use Rattle.go_core.specs.Memory as core
use Rattle.go_core.specs.Memory.{Value, with_written}
use Rattle.go_values.specs.ValuesSeen.{value_of}
use Rattle.go_values.proofs.ScalarLemmas.{slice_seen}
use Rattle.go_slices.proofs.slices.append.appended_in_place.Goals as goal

pub returns : goal.returns
returns c =
    let w = c.args.c.now.table.now in
    let ts = places w in
    let one = size (shape_of (names w) (tree_of ts c.args.t)) in
    let more = value_of ts c.args.more.cells.now in
    let slice = c.in_ok-slice.ensures.value ts ∙ ap (λ (x : core.Scalar). x ∷ []) (slice_seen ts c.args.base c.args.needed c.args.capacity) in
    let end = c.in_ok-end.ensures.value ∙ ap (λ (n : ℕ). c.args.base + n) (c.in_ok-offset.ensures.value ∙ ap (λ (n : ℕ). c.args.length * n) c.in_ok-one.ensures.value) in
    let units = c.in_ok-units.ensures.value ∙ ap (λ (n : ℕ). c.args.more.count * n) c.in_ok-weight.ensures.value in
    record {
      value = λ m.
          sym (ap (λ (v : Value). gives (v ∷ []) (with_written m c.in_ok-end.end more) c.in_ok-units.units) slice
          ∙ ap (λ (n : ℕ). gives ((core.slice c.args.base c.args.needed c.args.capacity ∷ []) ∷ []) (with_written m n more) c.in_ok-units.units) end
          ∙ ap (λ (n : ℕ). gives ((core.slice c.args.base c.args.needed c.args.capacity ∷ []) ∷ []) (with_written m (c.args.base + c.args.length * one) more) n) units);
    }
