use Rattle.std.proofs.Common.{ap, sym, ◌∙◌, refl, subst, List, ℕ}
use Rattle.std.specs.Borrow.{Bor}
use Rattle.std.proofs.lemmas.List.{length-map}
use Rattle.go_type.specs.Named.{NamedTy}
use Rattle.go_type.specs.Table.{places, names}
use Rattle.go_core.specs.Assign as assigning
use Rattle.go_core.specs.Assign.{bound_step}
use Rattle.go_core.specs.Calls.{with_vars}
use Rattle.go_core.specs.CoreView.{var_of}
use Rattle.go_core.specs.Frames.{on_operands}
use Rattle.go_core.specs.Goroutine.{with_memory}
use Rattle.go_values.specs.ValuesSeen.{values_of, memory_of}
use Rattle.go_values.specs.declared.values.scalar.Scalar.{Scalar}
use Rattle.go_state.specs.StateSeen.{frame_of, vars_of}
use Rattle.go_state.specs.Bound.{bindings_of}
use Rattle.go_state.specs.FrameStepsFound.{NoStep}
use Rattle.go_state.proofs.GoesLemmas.{lacked}
use Rattle.go_entries.proofs.LocalStepsStepLemmas.{bound_goes}
use Rattle.go_entries.proofs.local_steps.variables.bind_step.Goals as goal

pub returns-in_err-xs : goal.returns-in_err-xs
returns-in_err-xs c = record {
  value = λ p q.
      let ts = places c.args.c.now.table.now in
      let vs = vars_of ts c.args.vars.now in
      let m = memory_of ts c.args.m.now in
      lacked p ts c.from_residual.result c.in_err-xs.field-0.0 c.args.f.now c.operands.new.f c.args.m.now c.args.m.now (λ g. assigning.bind_step p g vs) c.from_residual.ensures.1
      (λ g below s.
      subst (λ (n : ℕ). NoStep c.in_err-xs.field-0.0 (on_operands n (frame_of ts c.args.f.now) (λ xs f'. bound_step p g (with_vars p.names vs xs (assigning.bindings p g f' (with_memory m s))) f' below (with_memory m s)))) (sym (length-map c.args.vars.now (var_of ts))) (c.in_err-xs.ensures.value ts (λ xs f'. bound_step p g (with_vars p.names vs xs (assigning.bindings p g f' (with_memory m s))) f' below (with_memory m s))));
}

pub returns : goal.returns
returns c = record {
  value = λ p q.
      let ts = places c.args.c.now.table.now in
      let ns = names c.args.c.now.table.now in
      let vs = vars_of ts c.args.vars.now in
      let f = frame_of ts c.args.f.now in
      let f1 = frame_of ts c.operands.new.f in
      let m = memory_of ts c.args.m.now in
      let b0 = bindings_of ts c.operands.new.f.places.items c.args.m.now 0 in
      bound_goes p ts c.bind_vars.result (with_vars ns vs (values_of ts c.as_slice.result.now) b0) c.args.f.now c.operands.new.f _ c.args.m.now c.bind_vars.new.m
      (λ g. assigning.bind_step p g vs)
      (λ g below s.
      ap (λ (n : ℕ). on_operands n f (λ xs f'. bound_step p g (with_vars p.names vs xs (assigning.bindings p g f' (with_memory m s))) f' below (with_memory m s))) (length-map c.args.vars.now (var_of ts))
      ∙ c.in_ok-xs.ensures.value ts (λ xs f'. bound_step p g (with_vars p.names vs xs (assigning.bindings p g f' (with_memory m s))) f' below (with_memory m s))
      ∙ ap (λ (ms : List NamedTy). bound_step p g (with_vars ms vs (values_of ts c.in_ok-xs.xs.items) b0) f1 below (with_memory m s)) q
      ∙ ap (λ (xs : List (Bor (List Scalar))). bound_step p g (with_vars ns vs (values_of ts xs) b0) f1 below (with_memory m s)) (sym c.as_slice.ensures.value))
      c.bind_vars.ensures.value (λ units. refl);
}
