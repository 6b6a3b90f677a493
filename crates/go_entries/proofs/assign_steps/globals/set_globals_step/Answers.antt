use Rattle.std.proofs.Common.{◌∙◌, ◌∷◌, ◌+◌, sym, ap, List, ℕ}
use Rattle.std.specs.Prelude.{Some}
use Rattle.std.specs.Borrow.{Bor}
use Rattle.go_type.specs.Table.{places}
use Rattle.go_core.specs.Assign as assigning
use Rattle.go_core.specs.CoreView.{program_view}
use Rattle.go_core.specs.Goroutine.{moved, with_memory}
use Rattle.go_core.specs.Memory as core
use Rattle.go_values.specs.ValuesSeen.{values_of, memory_of}
use Rattle.go_values.specs.declared.values.scalar.Scalar.{Scalar}
use Rattle.go_state.specs.StateSeen.{frame_of}
use Rattle.go_state.proofs.GoesLemmas.{lacked}
use Rattle.go_entries.proofs.assign_steps.globals.set_globals_step.Goals as goal

pub returns-in_err-xs : goal.returns-in_err-xs
returns-in_err-xs c = record {
  value =
      let p = program_view c.args.p.now in
      let ts = places c.args.p.now.types in
      let ns = c.args.numbers.now in
      let m = memory_of ts c.args.m.now in
      lacked p ts c.from_residual.result c.in_err-xs.field-0.0 c.args.f.now c.operands.new.f c.args.m.now c.args.m.now (λ g. assigning.set_globals_step p g ns) c.from_residual.ensures.1
      (λ g below s. c.in_err-xs.ensures.value ts (λ xs f'. Some (with_memory (assigning.set_global_cells p g ns xs m) (moved g (f' ∷ below) (1 + assigning.global_weights p g ns) s))));
}

pub returns : goal.returns
returns c = record {
  value = λ g below s.
      let p = program_view c.args.p.now in
      let ts = places c.args.p.now.types in
      let ns = c.args.numbers.now in
      let m = memory_of ts c.args.m.now in
      let f1 = frame_of ts c.operands.new.f in
      c.in_ok-xs.ensures.value ts (λ xs f'. Some (with_memory (assigning.set_global_cells p g ns xs m) (moved g (f' ∷ below) (1 + assigning.global_weights p g ns) s)))
      ∙ ap (λ (xs : List (Bor (List Scalar))). Some (with_memory (assigning.set_global_cells p g ns (values_of ts xs) m) (moved g (f1 ∷ below) (1 + assigning.global_weights p g ns) s))) (sym c.as_slice.ensures.value)
      ∙ ap (λ (w : core.Memory). Some (with_memory w (moved g (f1 ∷ below) (1 + assigning.global_weights p g ns) s))) (sym (c.in_ok-set_cells.ensures.value g))
      ∙ ap (λ (n : ℕ). Some (with_memory (memory_of ts c.set_cells.new.m) (moved g (f1 ∷ below) (1 + n) s))) (sym (c.in_ok-units.ensures.value g));
}
