use Rattle.std.proofs.Common.{◌∷◌, sym, ap, subst, List}
use Rattle.std.specs.Borrow.{Bor}
use Rattle.go_type.specs.Levels.{tree_of}
use Rattle.go_type.specs.Table.{places}
use Rattle.go_core.specs.Assign as assigning
use Rattle.go_core.specs.CoreTree as core
use Rattle.go_core.specs.CoreView.{program_view}
use Rattle.go_core.specs.Goroutine.{with_memory}
use Rattle.go_state.specs.TasksSeen.{targets_from}
use Rattle.go_values.specs.ValuesSeen.{value_of, values_of, memory_of}
use Rattle.go_values.specs.declared.values.scalar.Scalar.{Scalar}
use Rattle.go_state.specs.StateSeen.{frame_of}
use Rattle.go_state.specs.Goes.{Goes}
use Rattle.go_entries.proofs.FoundLemmas.{none_there}
use Rattle.go_entries.proofs.assign_steps.assign.entry_in.Goals as goal

pub returns-in-Some : goal.returns-in-Some
returns-in-Some c = record {
  value = λ e k.
      let p = program_view c.args.p.now in
      let ts = places c.args.p.now.types in
      let r = c.args.rest in
      let us = core.to_entry (tree_of ts c.args.map_type) e k ∷ targets_from ts r.targets.now r.from in
      subst (λ (os : List (Bor (List Scalar))). Goes p ts c.entry_set.result c.args.f.now c.entry_set.new.f c.args.m.now c.entry_set.new.m
      (λ g. assigning.assign_step p g us (value_of ts c.args.map.now ∷ values_of ts os) (value_of ts c.args.x.now ∷ values_of ts r.values.now))) (sym c.in-Some.ensures.cases.0)
      (c.entry_set.ensures.value e k);
}

pub returns-in-None : goal.returns-in-None
returns-in-None c = record {
  value = λ e k g below s.
      let p = program_view c.args.p.now in
      let ts = places c.args.p.now.types in
      let r = c.args.rest in
      let us = core.to_entry (tree_of ts c.args.map_type) e k ∷ targets_from ts r.targets.now r.from in
      ap (λ (os : List (Bor (List Scalar))). assigning.assign_step p g us (value_of ts c.args.map.now ∷ values_of ts os) (value_of ts c.args.x.now ∷ values_of ts r.values.now) (frame_of ts c.args.f.now) below (with_memory (memory_of ts c.args.m.now) s))
      (none_there r.operands.now c.in-None.ensures.cases);
}
