use Rattle.std.proofs.Common.{◌≡◌, ◌∙◌, ◌∷◌, [], sym, ap, subst, List}
use Rattle.std.specs.Borrow.{Bor}
use Rattle.go_type.specs.Tree.{Ty}
use Rattle.go_type.specs.Named.{NamedTy}
use Rattle.go_type.specs.Levels.{tree_of}
use Rattle.go_type.specs.Table.{places, names}
use Rattle.go_type.specs.Underlying.{underlying}
use Rattle.go_core.specs.Assign as assigning
use Rattle.go_core.specs.Memory as core
use Rattle.go_core.specs.StepMemory.{elem_step}
use Rattle.go_values.specs.ValuesSeen.{value_of, values_of}
use Rattle.go_values.specs.declared.values.scalar.Scalar.{Scalar}
use Rattle.go_values.proofs.ScalarLemmas.{pointer_seen}
use Rattle.go_values.proofs.Steps.{goes}
use Rattle.go_entries.specs.Found.{PlaceFound}
use Rattle.go_entries.proofs.FoundLemmas.{none_there}
use Rattle.go_entries.proofs.assign_steps.find.in_elem.Goals as goal

pub returns-in_ok-at-in-Some : goal.returns-in_ok-at-in-Some
returns-in_ok-at-in-Some c = record {
  value = λ p at m q.
      let w = c.args.c.now.table.now in
      let ts = places w in
      let t = tree_of ts c.args.array_type in
      let base = c.args.whole.base in
      let x = core.pointer base ∷ [] in
      let y = value_of ts c.in-Some.i.now.now in
      let over : underlying p.names t ≡ tree_of ts c.underlying.result = ap (λ (ms : List NamedTy). underlying ms t) q ∙ sym c.underlying.ensures.tree in
      subst (λ (xs : List (Bor (List Scalar))). PlaceFound ts c.placed.result (assigning.in_elem p at m t (assigning.found base (values_of ts xs)))) (sym c.in-Some.ensures.cases.0)
      (c.placed.ensures.value ts m (elem_step p.names (underlying p.names t) x y m)
      (goes ts m c.elem_step.result _ (elem_step (names w) (tree_of ts c.underlying.result) (value_of ts c.in_ok-at-in-Some.at.now) y m)
      (ap (λ (ms : List NamedTy). elem_step ms (underlying p.names t) x y m) q
      ∙ ap (λ (u : Ty). elem_step (names w) u x y m) over
      ∙ ap (λ (v : core.Value). elem_step (names w) (tree_of ts c.underlying.result) v y m) (sym (c.in_ok-at-in-Some.ensures.value ts ∙ ap (λ (z : core.Scalar). z ∷ []) (pointer_seen ts base))))
      (c.elem_step.ensures.value m)));
}

pub returns-in-None : goal.returns-in-None
returns-in-None c = record {
  value = λ p at m q.
      let ts = places c.args.c.now.table.now in
      ap (λ (xs : List (Bor (List Scalar))). assigning.in_elem p at m (tree_of ts c.args.array_type) (assigning.found c.args.whole.base (values_of ts xs))) (none_there c.args.whole.others.now c.in-None.ensures.cases);
}
