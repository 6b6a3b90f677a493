use Rattle.std.proofs.Common.{◌∙◌, ◌∷◌, sym, ap}
use Rattle.std.specs.Prelude.{Some}
use Rattle.go_type.specs.Table.{places}
use Rattle.go_core.specs.Calls as calls
use Rattle.go_core.specs.CoreView.{program_view}
use Rattle.go_core.specs.Goroutine as defined
use Rattle.go_core.specs.Goroutine.{moved, with_memory}
use Rattle.go_values.specs.ValuesSeen.{values_of, memory_of}
use Rattle.go_state.specs.StateSeen.{frame_of}
use Rattle.go_entries.specs.EntriesSeen.{called_of, resolved_of}
use Rattle.go_entries.specs.declared.entries.resolve.Resolved.{Resolved}
use Rattle.go_state.proofs.GoesLemmas.{lacked, same_step}
use Rattle.go_entries.proofs.call_steps.calls.defer_step.Goals as goal

pub returns-in_err-found : goal.returns-in_err-found
returns-in_err-found c = record {
  value = λ m.
      let q = program_view c.args.p.now in
      let ts = places c.args.p.now.types in
      let called = called_of ts c.args.called in
      lacked q ts c.from_residual.result c.in_err-found.field-0.0 c.args.f.now c.take_callee.new.f m m (λ g. calls.defer_step q g called c.args.count) c.from_residual.ensures.1
      (λ g below s. c.in_err-found.ensures.value (λ vs x. calls.defer_resolved q g (calls.resolved q called x.places vs) x below (with_memory (memory_of ts m) s)));
}

pub returns-in-Ready : goal.returns-in-Ready
returns-in-Ready c = record {
  value = λ m.
      let q = program_view c.args.p.now in
      let ts = places c.args.p.now.types in
      let r = c.in-Ready.ready in
      let f1 = frame_of ts c.take_callee.new.f in
      same_step q ts c.defer_ready.result c.args.f.now c.take_callee.new.f c.defer_ready.new.f m m
      (λ g. calls.defer_resolved q g (calls.ready r.func r.bases.now r.row (values_of ts r.operands.now)))
      (λ g. calls.defer_step q g (called_of ts c.args.called) c.args.count)
      (λ g below s.
      c.in_ok-found.ensures.value (λ k x. calls.defer_resolved q g k x below (with_memory (memory_of ts m) s))
      ∙ ap (λ (k : Resolved). calls.defer_resolved q g (resolved_of ts k) f1 below (with_memory (memory_of ts m) s)) c.in-Ready.is)
      (c.defer_ready.ensures.value m);
}

pub returns-in_ok-defer-in-NilFunction : goal.returns-in_ok-defer-in-NilFunction
returns-in_ok-defer-in-NilFunction c = record {
  value = λ m g below s.
      let q = program_view c.args.p.now in
      let ts = places c.args.p.now.types in
      let f1 = frame_of ts c.take_callee.new.f in
      let s0 = with_memory (memory_of ts m) s in
      c.in_ok-found.ensures.value (λ k x. calls.defer_resolved q g k x below s0)
      ∙ ap (λ (k : Resolved). calls.defer_resolved q g (resolved_of ts k) f1 below s0) c.in-NilFunction.is
      ∙ ap (λ (x : defined.Frame). Some (moved g (x ∷ below) 1 s0)) (sym (c.in_ok-defer-in-NilFunction.ensures.value ts));
}

pub returns-in-NilInterface : goal.returns-in-NilInterface
returns-in-NilInterface c = record {
  value = λ m g below s.
      let q = program_view c.args.p.now in
      let ts = places c.args.p.now.types in
      let f1 = frame_of ts c.take_callee.new.f in
      let s0 = with_memory (memory_of ts m) s in
      c.in_ok-found.ensures.value (λ k x. calls.defer_resolved q g k x below s0)
      ∙ ap (λ (k : Resolved). calls.defer_resolved q g (resolved_of ts k) f1 below s0) c.in-NilInterface.is;
}

pub returns-in-Unresolved : goal.returns-in-Unresolved
returns-in-Unresolved c = record {
  value = λ m g below s.
      let q = program_view c.args.p.now in
      let ts = places c.args.p.now.types in
      let f1 = frame_of ts c.take_callee.new.f in
      let s0 = with_memory (memory_of ts m) s in
      c.in_ok-found.ensures.value (λ k x. calls.defer_resolved q g k x below s0)
      ∙ ap (λ (k : Resolved). calls.defer_resolved q g (resolved_of ts k) f1 below s0) c.in-Unresolved.is;
}
