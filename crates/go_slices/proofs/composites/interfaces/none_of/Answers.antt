use Rattle.std.proofs.Common.{◌∙◌, sym, ap, true, false, ℕ, List}
use Rattle.go_type.specs.Levels.{tree_of}
use Rattle.go_type.specs.Table.{places, names}
use Rattle.go_core.specs.Did.{gives}
use Rattle.go_core.specs.Layout.{shape_of, weight}
use Rattle.go_core.specs.Memory.{Value}
use Rattle.go_core.specs.StepMaps.{with_ok}
use Rattle.go_values.specs.OperatorsSeen.{values_of}
use Rattle.go_slices.proofs.composites.interfaces.none_of.Goals as goal

pub returns : goal.returns
returns c =
    let w = c.args.c.now.table.now in
    let ts = places w in
    let s = shape_of (names w) (tree_of ts c.args.to) in
    record {
      value = λ m.
          ap (λ (v : Value). gives (with_ok true v false) m (weight s)) (sym c.in_ok-zeros.ensures.value)
          ∙ ap (λ (vs : List Value). gives vs m (weight s)) (sym (c.in_ok-values.ensures.value ts))
          ∙ ap (λ (n : ℕ). gives (values_of ts c.in_ok-values.values) m n) (sym c.in_ok-units.ensures.value);
    }
