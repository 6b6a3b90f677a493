use Rattle.std.proofs.Common.{◌≡◌, ◌∙◌, ◌∷◌, sym, ap, subst, List}
use Rattle.std.specs.Borrow.{Bor}
use Rattle.go_type.specs.Tree.{Ty}
use Rattle.go_type.specs.Named.{NamedTy}
use Rattle.go_type.specs.Levels.{tree_of}
use Rattle.go_type.specs.Table.{places, names}
use Rattle.go_type.specs.Underlying.{underlying}
use Rattle.go_core.specs.Assign as assigning
use Rattle.go_core.specs.CoreTree as tree
use Rattle.go_core.specs.StepMemory.{slice_elem_step}
use Rattle.go_values.specs.ValuesSeen.{value_of, values_of}
use Rattle.go_values.specs.declared.values.scalar.Scalar.{Scalar}
use Rattle.go_values.proofs.Steps.{goes}
use Rattle.go_entries.specs.Found.{PlaceFound}
use Rattle.go_entries.proofs.FoundLemmas.{none_there}
use Rattle.go_entries.proofs.assign_steps.find.slice_elem_in.Goals as goal

pub returns-in-Some : goal.returns-in-Some
returns-in-Some c = record {
  value = λ p at m e i q.
      let w = c.args.c.now.table.now in
      let ts = places w in
      let t = tree_of ts c.args.slice_type in
      let x = value_of ts c.args.x.now in
      let y = value_of ts c.in-Some.i.now.now in
      let over : underlying p.names t ≡ tree_of ts c.underlying.result = ap (λ (ms : List NamedTy). underlying ms t) q ∙ sym c.underlying.ensures.tree in
      subst (λ (xs : List (Bor (List Scalar))). PlaceFound ts c.placed.result (assigning.found_place p at m (tree.slice_elem t e i) (x ∷ values_of ts xs))) (sym c.in-Some.ensures.cases.0)
      (c.placed.ensures.value ts m (slice_elem_step p.names (underlying p.names t) x y m)
      (goes ts m c.slice_elem_step.result _ (slice_elem_step (names w) (tree_of ts c.underlying.result) x y m)
      (ap (λ (ms : List NamedTy). slice_elem_step ms (underlying p.names t) x y m) q ∙ ap (λ (u : Ty). slice_elem_step (names w) u x y m) over)
      (c.slice_elem_step.ensures.value m)));
}

pub returns-in-None : goal.returns-in-None
returns-in-None c = record {
  value = λ p at m e i q.
      let ts = places c.args.c.now.table.now in
      ap (λ (xs : List (Bor (List Scalar))). assigning.found_place p at m (tree.slice_elem (tree_of ts c.args.slice_type) e i) (value_of ts c.args.x.now ∷ values_of ts xs)) (none_there c.args.vs.now c.in-None.ensures.cases);
}
