use Rattle.std.proofs.Common.{◌∙◌, ◌+◌, [], sym, ap, ℕ}
use Rattle.std.specs.Prelude.{Option}
use Rattle.go_type.specs.Levels.{tree_of}
use Rattle.go_type.specs.Table.{places, names}
use Rattle.go_core.specs.Did.{gives}
use Rattle.go_core.specs.Layout.{shape_of, weight}
use Rattle.go_core.specs.Memory as core
use Rattle.go_core.specs.StepMaps.{entry_set}
use Rattle.go_values.specs.ValuesSeen.{value_of, map_of, memory_of}
use Rattle.go_values.specs.OperatorsSeen.{changed}
use Rattle.go_slices.proofs.MapsListLemmas.{item_seen, none_seen}
use Rattle.go_values.proofs.Steps.{stopped}
use Rattle.go_slices.proofs.maps.maps.set_in.Goals as goal

pub returns-in_err-change-in-Some : goal.returns-in_err-change-in-Some
returns-in_err-change-in-Some c =
    let w = c.args.c.now.table.now in
    let ns = names w in
    let ts = places w in
    let s = memory_of ts c.args.m.now in
    let k = tree_of ts c.args.key_type in
    let v = tree_of ts c.args.value_type in
    let there = item_seen (map_of ts) _ c.args.m.now.maps.items c.args.name c.in-Some.state c.as_slice.ensures.value c.in-Some.ensures.lookup in
    record {
      value =
          stopped ts s c.from_residual-in_err-change-in-Some.result _ _ _
          (ap (λ (o : Option core.MapState). entry_set ns k v (value_of ts c.args.key.now) (value_of ts c.args.value.now) c.args.name o s) there)
          c.from_residual-in_err-change-in-Some.ensures.1
          (c.in_err-change-in-Some.ensures.value s (weight (shape_of ns k) + weight (shape_of ns v)));
    }

pub returns-in_ok-change-in-Some : goal.returns-in_ok-change-in-Some
returns-in_ok-change-in-Some c =
    let w = c.args.c.now.table.now in
    let ns = names w in
    let ts = places w in
    let s = memory_of ts c.args.m.now in
    let k = tree_of ts c.args.key_type in
    let v = tree_of ts c.args.value_type in
    let there = item_seen (map_of ts) _ c.args.m.now.maps.items c.args.name c.in-Some.state c.as_slice.ensures.value c.in-Some.ensures.lookup in
    record {
      value =
          ap (λ (o : Option core.MapState). entry_set ns k v (value_of ts c.args.key.now) (value_of ts c.args.value.now) c.args.name o s) there
          ∙ c.in_ok-change-in-Some.ensures.value s (weight (shape_of ns k) + weight (shape_of ns v))
          ∙ ap (λ (n : ℕ). gives [] (changed ts s c.in_ok-change-in-Some.change) n) (sym c.in_ok-units-in-Some.ensures.value)
          ∙ sym (c.gives_change.ensures.value ts s);
    }

pub returns-in-None : goal.returns-in-None
returns-in-None c =
    let w = c.args.c.now.table.now in
    let ns = names w in
    let ts = places w in
    let s = memory_of ts c.args.m.now in
    record {
      value =
          ap (λ (o : Option core.MapState). entry_set ns (tree_of ts c.args.key_type) (tree_of ts c.args.value_type) (value_of ts c.args.key.now) (value_of ts c.args.value.now) c.args.name o s)
          (none_seen (map_of ts) _ c.args.m.now.maps.items c.args.name c.as_slice.ensures.value c.in-None.ensures.lookup);
    }
