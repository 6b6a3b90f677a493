use Rattle.std.proofs.Common.{subst, List}
use Rattle.go_type.specs.Table.{places}
use Rattle.go_core.specs.Assign as assigning
use Rattle.go_core.specs.CoreView.{place_view, program_view}
use Rattle.go_values.specs.ValuesSeen.{values_of, memory_of}
use Rattle.go_state.specs.StateSeen.{places_of}
use Rattle.go_state.specs.declared.state.frame.Place.{Place}
use Rattle.go_entries.specs.Found.{Misses, PlaceFound}
use Rattle.std.specs.Prelude.{Ok}
use Rattle.go_entries.proofs.assign_steps.assign.place_of.Goals as goal

pub returns-in-Ok : goal.returns-in-Ok
returns-in-Ok c = record {
  value =
      let p = program_view c.args.p.now in
      let ts = places c.args.p.now.types in
      subst (λ (at : List Place). PlaceFound ts (Ok c.in-Ok.found) (assigning.found_place p (places_of at) (memory_of ts c.args.m.now) (place_view ts c.args.place.now) (values_of ts c.args.operands.now))) c.as_slice.ensures.value c.in-Ok.ensures.value;
}

pub returns-in-Err : goal.returns-in-Err
returns-in-Err c = record {
  value =
      let p = program_view c.args.p.now in
      let ts = places c.args.p.now.types in
      c.counting.ensures.value _
      (subst (λ (at : List Place). Misses c.in-Err.e (assigning.found_place p (places_of at) (memory_of ts c.args.m.now) (place_view ts c.args.place.now) (values_of ts c.args.operands.now))) c.as_slice.ensures.value c.in-Err.ensures.value);
}
