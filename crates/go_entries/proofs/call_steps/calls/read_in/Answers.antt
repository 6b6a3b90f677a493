use Rattle.std.proofs.Common.{◌∙◌, ◌∷◌, [], sym, ap, subst}
use Rattle.go_type.specs.Table.{places}
use Rattle.go_core.specs.Calls as calls
use Rattle.go_core.specs.CoreView.{program_view, var_of}
use Rattle.go_core.specs.Goroutine.{with_memory}
use Rattle.go_core.specs.Memory as core
use Rattle.go_values.proofs.ScalarLemmas.{pointer_seen}
use Rattle.go_slices.proofs.SlicesScalarLemmas.{nil_seen}
use Rattle.go_values.specs.ValuesSeen.{scalar_of, memory_of}
use Rattle.go_state.specs.StateSeen.{frame_of}
use Rattle.go_state.specs.Goes.{Goes}
use Rattle.go_entries.proofs.call_steps.calls.read_in.Goals as goal

pub returns-in-Pointer : goal.returns-in-Pointer
returns-in-Pointer c = record {
  value =
      let q = program_view c.args.p.now in
      let ts = places c.args.p.now.types in
      let v = var_of ts c.args.var in
      subst (λ (x : core.Scalar). Goes q ts c.read_receiver.result c.args.f.now c.args.f.now c.args.m.now c.read_receiver.new.m (λ g y below s. calls.read_through q g v below s (x ∷ []) y))
      (sym (ap (scalar_of ts) c.in-Pointer.is ∙ pointer_seen ts c.in-Pointer.base)) c.read_receiver.ensures.value;
}

pub returns-in-Nil : goal.returns-in-Nil
returns-in-Nil c = record {
  value = λ g below s.
      let q = program_view c.args.p.now in
      let ts = places c.args.p.now.types in
      let v = var_of ts c.args.var in
      let s0 = with_memory (memory_of ts c.args.m.now) s in
      ap (λ (x : core.Scalar). calls.read_through q g v below s0 (x ∷ []) (frame_of ts c.args.f.now)) (ap (scalar_of ts) c.in-Nil.is ∙ nil_seen ts);
}
