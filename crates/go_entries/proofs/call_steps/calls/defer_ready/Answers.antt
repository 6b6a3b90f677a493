use Rattle.std.proofs.Common.{◌∙◌, ◌∷◌, ◌+◌, sym, ap, ℕ, List}
use Rattle.std.specs.Prelude.{Some, slice_get}
use Rattle.std.specs.Borrow.{Bor}
use Rattle.std.proofs.lemmas.List.{length-map}
use Rattle.go_type.specs.Table.{places}
use Rattle.go_core.specs.Calls as calls
use Rattle.go_core.specs.CoreView.{program_view}
use Rattle.go_core.specs.Goroutine as defined
use Rattle.go_core.specs.Goroutine.{moved, with_memory}
use Rattle.go_values.specs.ValuesSeen.{value_of, values_of, memory_of}
use Rattle.go_values.specs.declared.values.scalar.Scalar.{Scalar}
use Rattle.go_state.specs.StateSeen.{frame_of}
use Rattle.go_entries.proofs.call_steps.calls.defer_ready.Goals as goal

pub returns : goal.returns
returns c = record {
  value = λ m g below s.
      let q = program_view c.args.p.now in
      let ts = places c.args.p.now.types in
      let r = c.args.ready in
      let f = frame_of ts c.args.f.now in
      let s0 = with_memory (memory_of ts m) s in
      let i = defined.invoke r.func r.bases.now r.row (values_of ts r.operands.now) in
      ap (λ (n : ℕ). calls.with_deferred q g i n f below s0)
      (ap (calls.frame_weights q g (slice_get q.funcs r.func)) (length-map r.operands.now (λ (x : Bor (List Scalar)). value_of ts x.now)) ∙ sym (c.in_ok-units.ensures.value g))
      ∙ ap (λ (x : defined.Frame). Some (moved g (x ∷ below) (1 + c.in_ok-units.units) s0)) (sym (c.in_ok-defer.ensures.value ts));
}
