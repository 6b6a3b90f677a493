use Rattle.std.proofs.Common.{◌∙◌, ◌∷◌, [], ap}
use Rattle.go_type.specs.Levels.{tree_of}
use Rattle.go_type.specs.Table.{places, names}
use Rattle.go_type.specs.Tree.{mapping}
use Rattle.go_core.specs.StepMaps.{map_set_step}
use Rattle.go_core.specs.Memory as core
use Rattle.go_values.specs.ValuesSeen.{scalar_of, value_of, memory_of}
use Rattle.go_values.specs.declared.values.scalar.Scalar.{Scalar}
use Rattle.go_slices.proofs.SlicesScalarLemmas.{map_seen, nil_seen}
use Rattle.go_values.proofs.Steps.{goes}
use Rattle.go_slices.proofs.Steps.{stops}
use Rattle.go_slices.proofs.maps.maps.set_of.Goals as goal

pub returns-in-Map : goal.returns-in-Map
returns-in-Map c =
    let w = c.args.c.now.table.now in
    let ts = places w in
    let s = memory_of ts c.args.m.now in
    record {
      value =
          goes ts s c.set_in.result _ _
          (ap (λ (x : Scalar). map_set_step (names w) (mapping (tree_of ts c.args.key_type) (tree_of ts c.args.value_type)) (scalar_of ts x ∷ []) (value_of ts c.args.key.now) (value_of ts c.args.value.now) s) c.in-Map.is
          ∙ ap (λ (x : core.Scalar). map_set_step (names w) (mapping (tree_of ts c.args.key_type) (tree_of ts c.args.value_type)) (x ∷ []) (value_of ts c.args.key.now) (value_of ts c.args.value.now) s) (map_seen ts c.in-Map.name))
          (c.set_in.ensures.value);
    }

pub returns-in-Nil : goal.returns-in-Nil
returns-in-Nil c =
    let w = c.args.c.now.table.now in
    let ts = places w in
    let s = memory_of ts c.args.m.now in
    record {
      value =
          stops c.nil_entry.result _ _
          (ap (λ (x : Scalar). map_set_step (names w) (mapping (tree_of ts c.args.key_type) (tree_of ts c.args.value_type)) (scalar_of ts x ∷ []) (value_of ts c.args.key.now) (value_of ts c.args.value.now) s) c.in-Nil.is
          ∙ ap (λ (x : core.Scalar). map_set_step (names w) (mapping (tree_of ts c.args.key_type) (tree_of ts c.args.value_type)) (x ∷ []) (value_of ts c.args.key.now) (value_of ts c.args.value.now) s) (nil_seen ts))
          c.nil_entry.ensures.value;
    }
