use Rattle.std.proofs.Common.{◌∙◌, ◌∷◌, ◌+◌, ap, refl, arith, List}
use Rattle.std.specs.Borrow.{Bor}
use Rattle.go_type.specs.Table.{places}
use Rattle.go_core.specs.Assign as assigning
use Rattle.go_core.specs.CoreTree as core
use Rattle.go_core.specs.CoreView.{target_view, program_view}
use Rattle.go_core.specs.Goroutine.{with_memory}
use Rattle.go_state.specs.TasksSeen.{targets_from}
use Rattle.go_state.proofs.ListsLemmas.{targets_next, targets_end}
use Rattle.go_values.specs.ValuesSeen.{value_of, values_of, memory_of}
use Rattle.go_values.specs.declared.values.scalar.Scalar.{Scalar}
use Rattle.go_state.specs.StateSeen.{frame_of}
use Rattle.go_state.proofs.GoesLemmas.{same_step}
use Rattle.go_entries.proofs.AssignLemmas.{no_value_there}
use Rattle.go_entries.proofs.FoundLemmas.{none_there}
use Rattle.go_entries.proofs.assign_steps.assign.assign_step.Goals as goal

pub returns-then-rest-len : goal.returns-then-rest-len
returns-then-rest-len c = record {
  value = λ g below s.
      let p = program_view c.args.p.now in
      let ts = places c.args.p.now.types in
      let r = c.args.rest in
      let counted = r.targets.now.items.ok.0 in
      ap (λ (us : List core.Target). assigning.assign_step p g us (values_of ts r.operands.now) (values_of ts r.values.now) (frame_of ts c.args.f.now) below (with_memory (memory_of ts c.args.m.now) s))
      (targets_end ts r.targets.now r.targets.now.items.items r.from refl (omega (arith, counted, c.len.ensures, c.if-rest-len.true)));
}

pub returns-in-Some : goal.returns-in-Some
returns-in-Some c = record {
  value =
      let p = program_view c.args.p.now in
      let ts = places c.args.p.now.types in
      let r = c.args.rest in
      let counted = r.targets.now.items.ok.0 in
      let u = c.index.result.now in
      let us = targets_from ts r.targets.now (r.from + 1) in
      let os = values_of ts r.operands.now in
      let x = value_of ts c.in-Some.x.now.now in
      let vs = values_of ts c.in-Some.others.now in
      same_step p ts c.assign_to.result c.args.f.now c.args.f.now c.assign_to.new.f c.args.m.now c.assign_to.new.m
      (λ g. assigning.assign_step p g (target_view ts u ∷ us) os (x ∷ vs))
      (λ g. assigning.assign_step p g (targets_from ts r.targets.now r.from) os (values_of ts r.values.now))
      (λ g below s.
      ap (λ (ws : List core.Target). assigning.assign_step p g ws os (values_of ts r.values.now) (frame_of ts c.args.f.now) below (with_memory (memory_of ts c.args.m.now) s))
      (targets_next ts r.targets.now r.targets.now.items.items r.from u refl (omega (arith, counted, c.len.ensures, c.if-rest-len.false)) c.index.ensures)
      ∙ ap (λ (ys : List (Bor (List Scalar))). assigning.assign_step p g (target_view ts u ∷ us) os (values_of ts ys) (frame_of ts c.args.f.now) below (with_memory (memory_of ts c.args.m.now) s)) c.in-Some.ensures.cases.0)
      c.assign_to.ensures.value;
}

pub returns-in-None : goal.returns-in-None
returns-in-None c = record {
  value = λ g below s.
      let p = program_view c.args.p.now in
      let ts = places c.args.p.now.types in
      let r = c.args.rest in
      let counted = r.targets.now.items.ok.0 in
      let os = values_of ts r.operands.now in
      ap (λ (ys : List (Bor (List Scalar))). assigning.assign_step p g (targets_from ts r.targets.now r.from) os (values_of ts ys) (frame_of ts c.args.f.now) below (with_memory (memory_of ts c.args.m.now) s)) (none_there r.values.now c.in-None.ensures.cases)
      ∙ no_value_there p g ts r.targets.now r.from os (frame_of ts c.args.f.now) below (with_memory (memory_of ts c.args.m.now) s) (omega (arith, counted, c.len.ensures, c.if-rest-len.false));
}
