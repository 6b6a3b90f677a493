use Rattle.std.proofs.Common.{◌∙◌, ◌+◌, sym, ap, ℕ, List}
use Rattle.std.specs.Prelude.{Option}
use Rattle.go_type.specs.Levels.{tree_of}
use Rattle.go_type.specs.Table.{places, names}
use Rattle.go_core.specs.Did.{gives}
use Rattle.go_core.specs.Layout.{shape_of, weight}
use Rattle.go_core.specs.Memory as core
use Rattle.go_core.specs.Memory.{Value}
use Rattle.go_core.specs.StepMaps.{looked_up, with_ok, found_value, is_found}
use Rattle.go_values.specs.ValuesSeen.{value_of, memory_of}
use Rattle.go_values.specs.OperatorsSeen.{values_of}
use Rattle.go_slices.proofs.maps.maps.get_of.Goals as goal

pub returns : goal.returns
returns c =
    let w = c.args.c.now.table.now in
    let ns = names w in
    let ts = places w in
    let s = memory_of ts c.args.m.now in
    let shape = shape_of ns (tree_of ts c.args.value_type) in
    let key = value_of ts c.args.key.now in
    let wanted = weight (shape_of ns (tree_of ts c.args.key_type)) + weight shape in
    let entries = c.entries_at.ensures.value ts in
    let found = c.in_ok-found.ensures.value ∙ ap (λ (es : List core.Entry). looked_up ns (tree_of ts c.args.key_type) key es) entries in
    record {
      value =
          ap (λ (o : Option Value). gives (with_ok c.args.ok (found_value shape o) (is_found o)) s wanted) (sym found)
          ∙ ap (λ (vs : List Value). gives vs s wanted) (sym c.in_ok-values.ensures.value)
          ∙ ap (λ (n : ℕ). gives (values_of ts c.in_ok-values.values) s n) (sym c.in_ok-units.ensures.value);
    }
