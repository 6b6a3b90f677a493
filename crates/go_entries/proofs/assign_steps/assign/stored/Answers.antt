use Rattle.std.proofs.Common.{◌∙◌, ap, refl}
use Rattle.go_type.specs.Levels.{tree_of}
use Rattle.go_type.specs.Table.{places, names}
use Rattle.go_type.specs.declared.table.TypeTable.{TypeTable}
use Rattle.go_core.specs.Assign as assigning
use Rattle.go_core.specs.CoreTree as core
use Rattle.go_core.specs.CoreView.{place_view, program_view}
use Rattle.go_core.specs.Layout as layout
use Rattle.go_core.specs.Layout.{shape_of}
use Rattle.std.proofs.Common.{◌∷◌}
use Rattle.go_state.specs.TasksSeen.{targets_from}
use Rattle.go_values.specs.ValuesSeen.{value_of, values_of, memory_of}
use Rattle.go_state.specs.StateSeen.{places_of}
use Rattle.go_entries.proofs.AssignLemmas.{place_missed, place_stored}
use Rattle.go_entries.proofs.assign_steps.assign.stored.Goals as goal

pub returns-in_err-found : goal.returns-in_err-found
returns-in_err-found c = record {
  value =
      let p = program_view c.args.p.now in
      let ts = places c.args.p.now.types in
      let r = c.args.rest in
      let us = targets_from ts r.targets.now r.from in
      let place = place_view ts c.args.place.now in
      let t = tree_of ts c.args.ty in
      let x = value_of ts c.args.x.now in
      let os = values_of ts r.operands.now in
      let vs = values_of ts r.values.now in
      place_missed p ts c.from_residual-in_err-found.result c.in_err-found.field-0.0 c.in_ok-nodes.nodes (assigning.depth place)
      (assigning.found_place p (places_of c.args.f.now.places.items) (memory_of ts c.args.m.now) place os) t us x vs c.args.f.now c.args.m.now
      (λ g. assigning.assign_step p g (core.to_place t place ∷ us) os (x ∷ vs)) c.from_residual-in_err-found.ensures.1 (c.in_ok-nodes.ensures.value ts)
      (λ g below s. refl) c.in_err-found.ensures.value;
}

pub returns : goal.returns
returns c = record {
  value = λ g below s.
      let p = program_view c.args.p.now in
      let ts = places c.args.p.now.types in
      let r = c.args.rest in
      let us = targets_from ts r.targets.now r.from in
      let place = place_view ts c.args.place.now in
      let t = tree_of ts c.args.ty in
      let x = value_of ts c.args.x.now in
      let vs = values_of ts r.values.now in
      let found = c.in_ok-found.found in
      place_stored p ts g below s _ found.base (values_of ts found.others.now) t c.in_ok-nodes.nodes (assigning.depth place) c.in_ok-weight.weight c.in_ok-units.units
      us x vs c.args.f.now c.rest_first.new.f c.args.m.now c.write_value.new.m
      c.in_ok-found.ensures.value (c.in_ok-nodes.ensures.value ts)
      (c.in_ok-weight.ensures.value ∙ ap (λ (w : TypeTable). layout.weight (shape_of (names w) (tree_of (places w) c.args.ty))) c.requires)
      c.in_ok-units.ensures.value (c.write_value.ensures.value ts) (c.in_ok-rest_first.ensures.value ts p g);
}
