use Rattle.std.proofs.Common.{◌∙◌, ◌∷◌, ◌+◌, [], sym, ap, subst, ℕ, List}
use Rattle.std.specs.Prelude.{Option, Some}
use Rattle.std.specs.Borrow.{Bor}
use Rattle.go_type.specs.Table.{places, names}
use Rattle.go_type.specs.declared.table.TypeTable.{TypeTable}
use Rattle.go_core.specs.Calls as calls
use Rattle.go_core.specs.CoreView.{program_view}
use Rattle.go_core.specs.Goroutine as defined
use Rattle.go_core.specs.Goroutine.{moved, with_memory}
use Rattle.go_core.specs.Memory as core
use Rattle.go_core.specs.Memory.{Value}
use Rattle.go_values.specs.ValuesSeen.{values_of, memory_of}
use Rattle.go_values.specs.declared.values.scalar.Scalar.{Scalar}
use Rattle.go_state.specs.StateSeen.{frame_of, places_of, vars_of}
use Rattle.go_state.specs.declared.state.frame.Place.{Place}
use Rattle.go_state.specs.FrameStepsFound.{NoStep}
use Rattle.go_state.proofs.GoesLemmas.{lacked}
use Rattle.go_entries.proofs.CallStepsStepLemmas.{returns_some, not_stored}
use Rattle.go_entries.proofs.call_steps.results.return_step.Goals as goal

pub returns-then-count-eq0 : goal.returns-then-count-eq0
returns-then-count-eq0 c = record {
  value = λ g below s.
      let q = program_view c.args.p.now in
      let ts = places c.args.p.now.types in
      let m = memory_of ts c.args.m.now in
      ap (λ (n : ℕ). calls.return_step q g n (frame_of ts c.args.f.now) below (with_memory m s)) c.if-count-eq0.true
      ∙ ap (λ (x : defined.Frame). Some (with_memory m (moved g (x ∷ below) 1 s))) (sym (c.returned.ensures.value ts));
}

pub returns-in_err-xs : goal.returns-in_err-xs
returns-in_err-xs c = record {
  value =
      let q = program_view c.args.p.now in
      let ts = places c.args.p.now.types in
      let m = memory_of ts c.args.m.now in
      lacked q ts c.from_residual.result c.in_err-xs.field-0.0 c.args.f.now c.operands.new.f c.args.m.now c.args.m.now (λ g. calls.return_step q g c.args.count) c.from_residual.ensures.1
      (λ g below s.
      subst (λ (o : Option defined.State). NoStep c.in_err-xs.field-0.0 o) (sym (returns_some q g c.args.count (frame_of ts c.args.f.now) below (with_memory m s) c.if-count-eq0.false))
      (c.in_err-xs.ensures.value ts (λ vs f'. calls.returned_with q g (calls.with_stored q g f'.results vs f'.places m) (calls.weights q g f'.results) f' below (with_memory m s))));
}

pub returns-in_err-store : goal.returns-in_err-store
returns-in_err-store c = record {
  value =
      let q = program_view c.args.p.now in
      let ts = places c.args.p.now.types in
      let m = memory_of ts c.args.m.now in
      let f1 = frame_of ts c.operands.new.f in
      let vars = vars_of ts c.operands.new.f.results.now in
      not_stored q ts c.from_residual-in_err-store.result c.in_err-store.field-0.0 (λ g. calls.with_stored q g vars (values_of ts c.as_slice.result.now) (places_of c.as_slice-2.result.now) m) c.store.new.m
      c.args.f.now c.operands.new.f c.args.m.now c.store.new.m (λ g. calls.return_step q g c.args.count) c.from_residual-in_err-store.ensures.1
      (λ g below s e.
      returns_some q g c.args.count (frame_of ts c.args.f.now) below (with_memory m s) c.if-count-eq0.false
      ∙ c.in_ok-xs.ensures.value ts (λ vs f'. calls.returned_with q g (calls.with_stored q g f'.results vs f'.places m) (calls.weights q g f'.results) f' below (with_memory m s))
      ∙ ap (λ (o : Option core.Memory). calls.returned_with q g o (calls.weights q g vars) f1 below (with_memory m s))
      (ap (λ (xs : List (Bor (List Scalar))). calls.with_stored q g vars (values_of ts xs) f1.places m) (sym c.as_slice.ensures.value)
      ∙ ap (λ (at : List Place). calls.with_stored q g vars (values_of ts c.as_slice.result.now) (places_of at) m) (sym c.as_slice-2.ensures.value)
      ∙ e))
      (λ g. c.in_err-store.ensures.value ts q g);
}

pub returns : goal.returns
returns c = record {
  value = λ g below s.
      let q = program_view c.args.p.now in
      let ts = places c.args.p.now.types in
      let m = memory_of ts c.args.m.now in
      let n = memory_of ts c.store.new.m in
      let f1 = frame_of ts c.operands.new.f in
      let vars = vars_of ts c.operands.new.f.results.now in
      let units =
      c.in_ok-units.ensures.value q g (ap names (sym c.requires)) ∙ ap (λ (w : TypeTable). calls.weights q g (vars_of (places w) c.operands.new.f.results.now)) c.requires in
      returns_some q g c.args.count (frame_of ts c.args.f.now) below (with_memory m s) c.if-count-eq0.false
      ∙ c.in_ok-xs.ensures.value ts (λ vs f'. calls.returned_with q g (calls.with_stored q g f'.results vs f'.places m) (calls.weights q g f'.results) f' below (with_memory m s))
      ∙ ap (λ (o : Option core.Memory). calls.returned_with q g o (calls.weights q g vars) f1 below (with_memory m s))
      (ap (λ (xs : List (Bor (List Scalar))). calls.with_stored q g vars (values_of ts xs) f1.places m) (sym c.as_slice.ensures.value)
      ∙ ap (λ (at : List Place). calls.with_stored q g vars (values_of ts c.as_slice.result.now) (places_of at) m) (sym c.as_slice-2.ensures.value)
      ∙ c.in_ok-store.ensures.value ts q g)
      ∙ ap (λ (k : ℕ). Some (with_memory n (moved g (record f1 { tasks = []; values = []; mode = defined.returning } ∷ below) (1 + k) s))) (sym units)
      ∙ ap (λ (x : defined.Frame). Some (with_memory n (moved g (x ∷ below) (1 + c.in_ok-units.units) s))) (sym (c.returned-2.ensures.value ts));
}
