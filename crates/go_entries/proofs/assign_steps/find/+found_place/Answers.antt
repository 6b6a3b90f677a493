use Rattle.std.proofs.Common.{◌∙◌, sym, ap, subst, List, ℕ, map}
use Rattle.go_type.specs.Levels.{tree_of}
use Rattle.go_type.specs.Table.{places, names}
use Rattle.go_type.specs.declared.table.TypeTable.{TypeTable}
use Rattle.go_core.specs.Assign as assigning
use Rattle.go_core.specs.CoreTree as tree
use Rattle.go_core.specs.CoreView.{expr_view, program_view, package_var_view}
use Rattle.go_core.specs.StepMemory.{global_base}
use Rattle.go_core.specs.declared.program.PackageVar.{PackageVar}
use Rattle.go_values.specs.ValuesSeen.{values_of, memory_of}
use Rattle.go_state.specs.StateSeen.{places_of}
use Rattle.go_entries.specs.Found.{PlaceFound}
use Rattle.go_entries.proofs.FoundLemmas.{field_missed, elem_missed, missed_place, found_as}
use Rattle.go_entries.proofs.PlaceLemmas.{local_place, global_place, deref_place, field_place, elem_place, slice_elem_place}
use Rattle.go_entries.proofs.assign_steps.find.+found_place.Goals as goal

pub returns-in-Local : goal.returns-in-Local
returns-in-Local t c = record {
  value =
      let p = program_view c.args.sight.p.now in
      let ts = places c.args.sight.p.now.types in
      let at = places_of c.args.sight.places.now in
      let m = memory_of ts c.args.sight.memory.now in
      found_as ts c.local_found.result _ _
      (ap (λ (x : tree.CorePlace). assigning.found_place p at m x (values_of ts c.args.vs.now)) (local_place ts c.args.place.now c.deref.result.now c.deref.ensures _ c.in-Local.is))
      (c.local_found.ensures.value ts p m);
}

pub returns-in_ok-base-in-Global : goal.returns-in_ok-base-in-Global
returns-in_ok-base-in-Global t c = record {
  value =
      let w = c.args.sight.c.now.table.now in
      let p = program_view c.args.sight.p.now in
      let ts = places c.args.sight.p.now.types in
      let at = places_of c.args.sight.places.now in
      let m = memory_of ts c.args.sight.memory.now in
      let vs = values_of ts c.args.vs.now in
      let n = c.in-Global.number.0 in
      ap (λ (x : tree.CorePlace). assigning.found_place p at m x vs) (global_place ts c.args.place.now c.deref.result.now c.deref.ensures _ c.in-Global.is)
      ∙ ap (λ (k : ℕ). assigning.found k vs)
      (sym (c.in_ok-base-in-Global.ensures.value
      ∙ ap (λ (gs : List PackageVar). global_base (names w) (map (package_var_view (places w)) gs) n) c.as_slice.ensures.value
      ∙ ap (λ (v : TypeTable). global_base (names v) (map (package_var_view (places v)) c.args.sight.p.now.globals.items.items) n) c.requires));
}

pub returns-in-Deref : goal.returns-in-Deref
returns-in-Deref t c = record {
  value =
      let p = program_view c.args.sight.p.now in
      let ts = places c.args.sight.p.now.types in
      let at = places_of c.args.sight.places.now in
      let m = memory_of ts c.args.sight.memory.now in
      found_as ts c.deref_found.result _ _
      (ap (λ (x : tree.CorePlace). assigning.found_place p at m x (values_of ts c.args.vs.now)) (deref_place ts c.args.place.now c.deref.result.now c.deref.ensures _ c.in-Deref.is))
      (c.deref_found.ensures.value ts p at m (expr_view ts c.in-Deref.field-0));
}

pub returns-in_err-whole-in-Field : goal.returns-in_err-whole-in-Field
returns-in_err-whole-in-Field t c = record {
  value =
      let p = program_view c.args.sight.p.now in
      let ts = places c.args.sight.p.now.types in
      let at = places_of c.args.sight.places.now in
      let m = memory_of ts c.args.sight.memory.now in
      let vs = values_of ts c.args.vs.now in
      let e = c.in_err-whole-in-Field.field-0.0 in
      found_as ts c.from_residual-in_err-whole-in-Field.result _ _
      (ap (λ (x : tree.CorePlace). assigning.found_place p at m x vs) (field_place ts c.args.place.now c.deref.result.now c.deref.ensures _ _ _ c.in-Field.is))
      (missed_place ts c.from_residual-in_err-whole-in-Field.result e _ c.from_residual-in_err-whole-in-Field.ensures.1
      (field_missed p at m (tree_of ts c.in-Field.struct_type) e c.in-Field.number _ c.in_err-whole-in-Field.ensures.value));
}

pub returns-in_ok-whole-in-Field : goal.returns-in_ok-whole-in-Field
returns-in_ok-whole-in-Field t c = record {
  value =
      let w = c.args.sight.c.now.table.now in
      let p = program_view c.args.sight.p.now in
      let ts = places c.args.sight.p.now.types in
      let at = places_of c.args.sight.places.now in
      let m = memory_of ts c.args.sight.memory.now in
      let vs = values_of ts c.args.vs.now in
      let found = c.in_ok-whole-in-Field.whole in
      let st = c.in-Field.struct_type in
      let n = c.in-Field.number in
      found_as ts c.in_field.result _ _
      (ap (λ (x : tree.CorePlace). assigning.found_place p at m x vs) (field_place ts c.args.place.now c.deref.result.now c.deref.ensures _ _ _ c.in-Field.is)
      ∙ ap (assigning.in_field p at m (tree_of ts st) n) c.in_ok-whole-in-Field.ensures.value)
      (subst (λ (v : TypeTable). PlaceFound (places v) c.in_field.result (assigning.in_field p at m (tree_of (places v) st) n (assigning.found found.base (values_of (places v) found.others.now)))) c.requires
      (c.in_field.ensures.value p at m (ap names (sym c.requires))));
}

pub returns-in_err-whole-in-Elem : goal.returns-in_err-whole-in-Elem
returns-in_err-whole-in-Elem t c = record {
  value =
      let p = program_view c.args.sight.p.now in
      let ts = places c.args.sight.p.now.types in
      let at = places_of c.args.sight.places.now in
      let m = memory_of ts c.args.sight.memory.now in
      let vs = values_of ts c.args.vs.now in
      let e = c.in_err-whole-in-Elem.field-0.0 in
      found_as ts c.from_residual-in_err-whole-in-Elem.result _ _
      (ap (λ (x : tree.CorePlace). assigning.found_place p at m x vs) (elem_place ts c.args.place.now c.deref.result.now c.deref.ensures _ _ _ c.in-Elem.is))
      (missed_place ts c.from_residual-in_err-whole-in-Elem.result e _ c.from_residual-in_err-whole-in-Elem.ensures.1
      (elem_missed p at m (tree_of ts c.in-Elem.array_type) e _ c.in_err-whole-in-Elem.ensures.value));
}

pub returns-in_ok-whole-in-Elem : goal.returns-in_ok-whole-in-Elem
returns-in_ok-whole-in-Elem t c = record {
  value =
      let w = c.args.sight.c.now.table.now in
      let p = program_view c.args.sight.p.now in
      let ts = places c.args.sight.p.now.types in
      let at = places_of c.args.sight.places.now in
      let m = memory_of ts c.args.sight.memory.now in
      let vs = values_of ts c.args.vs.now in
      let found = c.in_ok-whole-in-Elem.whole in
      let at_type = c.in-Elem.array_type in
      found_as ts c.in_elem.result _ _
      (ap (λ (x : tree.CorePlace). assigning.found_place p at m x vs) (elem_place ts c.args.place.now c.deref.result.now c.deref.ensures _ _ _ c.in-Elem.is)
      ∙ ap (assigning.in_elem p at m (tree_of ts at_type)) c.in_ok-whole-in-Elem.ensures.value)
      (subst (λ (v : TypeTable). PlaceFound (places v) c.in_elem.result (assigning.in_elem p at m (tree_of (places v) at_type) (assigning.found found.base (values_of (places v) found.others.now)))) c.requires
      (c.in_elem.ensures.value p at m (ap names (sym c.requires))));
}

pub returns-in-SliceElem : goal.returns-in-SliceElem
returns-in-SliceElem t c = record {
  value =
      let p = program_view c.args.sight.p.now in
      let ts = places c.args.sight.p.now.types in
      let at = places_of c.args.sight.places.now in
      let m = memory_of ts c.args.sight.memory.now in
      let a = expr_view ts c.in-SliceElem.operand in
      let i = expr_view ts c.in-SliceElem.index in
      let st = c.in-SliceElem.slice_type in
      found_as ts c.slice_elem_found.result _ _
      (ap (λ (x : tree.CorePlace). assigning.found_place p at m x (values_of ts c.args.vs.now)) (slice_elem_place ts c.args.place.now c.deref.result.now c.deref.ensures _ _ _ c.in-SliceElem.is))
      (subst (λ (v : TypeTable). PlaceFound (places v) c.slice_elem_found.result (assigning.found_place p at m (tree.slice_elem (tree_of (places v) st) a i) (values_of (places v) c.args.vs.now))) c.requires
      (c.slice_elem_found.ensures.value p at m a i (ap names (sym c.requires))));
}
