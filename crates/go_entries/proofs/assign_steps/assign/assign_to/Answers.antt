use Rattle.std.proofs.Common.{◌∙◌, ◌∷◌, sym, ap, subst}
use Rattle.go_type.specs.Table.{places}
use Rattle.go_core.specs.Assign as assigning
use Rattle.go_core.specs.CoreView.{expr_view, target_view, program_view}
use Rattle.go_core.specs.Goroutine as defined
use Rattle.go_core.specs.Goroutine.{moved, with_memory}
use Rattle.go_core.specs.declared.statement.Target.{Target}
use Rattle.std.specs.Prelude.{Some}
use Rattle.go_state.specs.TasksSeen.{targets_from}
use Rattle.go_values.specs.ValuesSeen.{value_of, values_of, memory_of}
use Rattle.go_state.specs.StateSeen.{frame_of}
use Rattle.go_state.specs.Goes.{Goes}
use Rattle.go_entries.proofs.assign_steps.assign.assign_to.Goals as goal

pub returns-in_ok-rest_first-in-Blank : goal.returns-in_ok-rest_first-in-Blank
returns-in_ok-rest_first-in-Blank c = record {
  value = λ g below s.
      let p = program_view c.args.p.now in
      let ts = places c.args.p.now.types in
      let r = c.args.rest in
      let m = memory_of ts c.args.m.now in
      ap (λ (u : Target). assigning.assign_step p g (target_view ts u ∷ targets_from ts r.targets.now r.from) (values_of ts r.operands.now) (value_of ts c.args.x.now ∷ values_of ts r.values.now) (frame_of ts c.args.f.now) below (with_memory m s)) c.in-Blank.is
      ∙ ap (λ (f : defined.Frame). Some (with_memory m (moved g (f ∷ below) 1 s))) (sym (c.in_ok-rest_first-in-Blank.ensures.value ts p g));
}

pub returns-in-Place : goal.returns-in-Place
returns-in-Place c = record {
  value =
      let p = program_view c.args.p.now in
      let ts = places c.args.p.now.types in
      let r = c.args.rest in
      subst (λ (u : Target). Goes p ts c.stored.result c.args.f.now c.stored.new.f c.args.m.now c.stored.new.m
      (λ g. assigning.assign_step p g (target_view ts u ∷ targets_from ts r.targets.now r.from) (values_of ts r.operands.now) (value_of ts c.args.x.now ∷ values_of ts r.values.now))) (sym c.in-Place.is)
      c.stored.ensures.value;
}

pub returns-in-Entry : goal.returns-in-Entry
returns-in-Entry c = record {
  value =
      let p = program_view c.args.p.now in
      let ts = places c.args.p.now.types in
      let r = c.args.rest in
      subst (λ (u : Target). Goes p ts c.entry_stored.result c.args.f.now c.entry_stored.new.f c.args.m.now c.entry_stored.new.m
      (λ g. assigning.assign_step p g (target_view ts u ∷ targets_from ts r.targets.now r.from) (values_of ts r.operands.now) (value_of ts c.args.x.now ∷ values_of ts r.values.now))) (sym c.in-Entry.is)
      (c.entry_stored.ensures.value (expr_view ts c.in-Entry.operand) (expr_view ts c.in-Entry.key));
}
