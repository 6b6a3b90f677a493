use Rattle.std.proofs.Common.{sym, ap, subst, List}
use Rattle.std.specs.Borrow.{Bor}
use Rattle.go_core.specs.Assign as assigning
use Rattle.go_core.specs.CoreTree as tree
use Rattle.go_values.specs.ValuesSeen.{values_of}
use Rattle.go_values.specs.declared.values.scalar.Scalar.{Scalar}
use Rattle.go_entries.specs.Found.{PlaceFound}
use Rattle.go_entries.proofs.FoundLemmas.{none_there}
use Rattle.go_entries.proofs.assign_steps.find.deref_found.Goals as goal

pub returns-in-Some : goal.returns-in-Some
returns-in-Some c = record {
  value = λ ts p at m e.
      subst (λ (xs : List (Bor (List Scalar))). PlaceFound ts c.placed.result (assigning.found_place p at m (tree.deref e) (values_of ts xs))) (sym c.in-Some.ensures.cases.0)
      (c.placed.ensures.value ts m _ (c.deref_step.ensures.value ts m));
}

pub returns-in-None : goal.returns-in-None
returns-in-None c = record {
  value = λ ts p at m e. ap (λ (xs : List (Bor (List Scalar))). assigning.found_place p at m (tree.deref e) (values_of ts xs)) (none_there c.args.vs.now c.in-None.ensures.cases);
}
