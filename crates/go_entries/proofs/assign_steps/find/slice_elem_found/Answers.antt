use Rattle.std.proofs.Common.{sym, ap, subst, List}
use Rattle.std.specs.Borrow.{Bor}
use Rattle.go_type.specs.Levels.{tree_of}
use Rattle.go_type.specs.Table.{places}
use Rattle.go_core.specs.Assign as assigning
use Rattle.go_core.specs.CoreTree as tree
use Rattle.go_values.specs.ValuesSeen.{values_of}
use Rattle.go_values.specs.declared.values.scalar.Scalar.{Scalar}
use Rattle.go_entries.specs.Found.{PlaceFound}
use Rattle.go_entries.proofs.FoundLemmas.{none_there}
use Rattle.go_entries.proofs.assign_steps.find.slice_elem_found.Goals as goal

pub returns-in-Some : goal.returns-in-Some
returns-in-Some c = record {
  value = λ p at m e i q.
      let ts = places c.args.c.now.table.now in
      let t = tree_of ts c.args.slice_type in
      subst (λ (xs : List (Bor (List Scalar))). PlaceFound ts c.slice_elem_in.result (assigning.found_place p at m (tree.slice_elem t e i) (values_of ts xs))) (sym c.in-Some.ensures.cases.0)
      (c.slice_elem_in.ensures.value p at m e i q);
}

pub returns-in-None : goal.returns-in-None
returns-in-None c = record {
  value = λ p at m e i q.
      let ts = places c.args.c.now.table.now in
      ap (λ (xs : List (Bor (List Scalar))). assigning.found_place p at m (tree.slice_elem (tree_of ts c.args.slice_type) e i) (values_of ts xs)) (none_there c.args.vs.now c.in-None.ensures.cases);
}
