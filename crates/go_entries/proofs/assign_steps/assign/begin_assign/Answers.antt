use Rattle.std.proofs.Common.{◌∙◌, sym, ap, subst, List, ℕ}
use Rattle.std.specs.Borrow.{Bor}
use Rattle.go_type.specs.Table.{places}
use Rattle.go_core.specs.Assign as assigning
use Rattle.go_core.specs.CoreView.{program_view}
use Rattle.go_core.specs.Frames.{on_operands}
use Rattle.go_core.specs.Goroutine as defined
use Rattle.go_core.specs.Goroutine.{with_memory}
use Rattle.go_core.specs.Memory.{Value}
use Rattle.std.specs.Prelude.{Option}
use Rattle.go_state.specs.TasksSeen.{targets_from}
use Rattle.go_values.specs.ValuesSeen.{values_of, memory_of}
use Rattle.go_values.specs.declared.values.scalar.Scalar.{Scalar}
use Rattle.go_state.specs.StateSeen.{frame_of}
use Rattle.go_state.specs.FrameStepsFound.{NoStep}
use Rattle.go_state.proofs.GoesLemmas.{lacked, same_step}
use Rattle.go_entries.proofs.assign_steps.assign.begin_assign.Goals as goal

pub returns-in_err-xs : goal.returns-in_err-xs
returns-in_err-xs c = record {
  value =
      let p = program_view c.args.p.now in
      let ts = places c.args.p.now.types in
      let us = targets_from ts c.args.targets.now 0 in
      let m = memory_of ts c.args.m.now in
      lacked p ts c.from_residual.result c.in_err-xs.field-0.0 c.args.f.now c.operands.new.f c.args.m.now c.args.m.now (λ g. assigning.begin_assign p g us c.args.count) c.from_residual.ensures.1
      (λ g below s. c.in_err-xs.ensures.value ts (λ xs f'. on_operands (assigning.target_operands p g us) f' (λ os f''. assigning.assign_step p g us os xs f'' below (with_memory m s))));
}

pub returns-in_err-ys : goal.returns-in_err-ys
returns-in_err-ys c = record {
  value =
      let p = program_view c.args.p.now in
      let ts = places c.args.p.now.types in
      let us = targets_from ts c.args.targets.now 0 in
      let m = memory_of ts c.args.m.now in
      let f1 = frame_of ts c.operands.new.f in
      let xs0 = values_of ts c.in_ok-xs.xs.items in
      let rest = λ (g : ℕ) (below : List defined.Frame) (s : defined.State) (n : ℕ) (xs : List Value). on_operands n f1 (λ os f''. assigning.assign_step p g us os xs f'' below (with_memory m s)) in
      lacked p ts c.from_residual-in_err-ys.result c.in_err-ys.field-0.0 c.args.f.now c.operands-2.new.f c.args.m.now c.args.m.now (λ g. assigning.begin_assign p g us c.args.count) c.from_residual-in_err-ys.ensures.1
      (λ g below s.
      subst (λ (o : Option defined.State). NoStep c.in_err-ys.field-0.0 o)
      (sym (c.in_ok-xs.ensures.value ts (λ xs f'. on_operands (assigning.target_operands p g us) f' (λ os f''. assigning.assign_step p g us os xs f'' below (with_memory m s)))
      ∙ ap (λ (n : ℕ). rest g below s n xs0) (sym (c.in_ok-wanted.ensures.value ts p g))))
      (c.in_err-ys.ensures.value ts (λ os f''. assigning.assign_step p g us os xs0 f'' below (with_memory m s))));
}

pub returns : goal.returns
returns c = record {
  value =
      let p = program_view c.args.p.now in
      let ts = places c.args.p.now.types in
      let us = targets_from ts c.args.targets.now 0 in
      let m = memory_of ts c.args.m.now in
      let f1 = frame_of ts c.operands.new.f in
      let f2 = frame_of ts c.operands-2.new.f in
      let xs0 = values_of ts c.in_ok-xs.xs.items in
      let held_xs = c.in_ok-values.ensures.value ∙ c.as_slice.ensures.value in
      let held_ys = c.in_ok-operands.ensures.value ∙ c.as_slice-2.ensures.value in
      let rest = λ (g : ℕ) (below : List defined.Frame) (s : defined.State) (n : ℕ). on_operands n f1 (λ os f''. assigning.assign_step p g us os xs0 f'' below (with_memory m s)) in
      same_step p ts c.assign_step.result c.args.f.now c.operands-2.new.f c.assign_step.new.f c.args.m.now c.assign_step.new.m
      (λ g. assigning.assign_step p g us (values_of ts c.in_ok-operands.operands.now) (values_of ts c.in_ok-values.values.now))
      (λ g. assigning.begin_assign p g us c.args.count)
      (λ g below s.
      c.in_ok-xs.ensures.value ts (λ xs f'. on_operands (assigning.target_operands p g us) f' (λ os f''. assigning.assign_step p g us os xs f'' below (with_memory m s)))
      ∙ ap (λ (n : ℕ). rest g below s n) (sym (c.in_ok-wanted.ensures.value ts p g))
      ∙ c.in_ok-ys.ensures.value ts (λ os f''. assigning.assign_step p g us os xs0 f'' below (with_memory m s))
      ∙ ap (λ (os : List (Bor (List Scalar))). assigning.assign_step p g us (values_of ts os) xs0 f2 below (with_memory m s)) (sym held_ys)
      ∙ ap (λ (xs : List (Bor (List Scalar))). assigning.assign_step p g us (values_of ts c.in_ok-operands.operands.now) (values_of ts xs) f2 below (with_memory m s)) (sym held_xs))
      c.assign_step.ensures.value;
}
