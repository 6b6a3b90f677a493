use Rattle.std.proofs.Common.{◌∙◌, ◌∷◌, [], sym, ap, List}
use Rattle.std.specs.Prelude.{None, Some}
use Rattle.std.specs.Borrow.{Bor}
use Rattle.go_core.specs.Calls.{ready, method_with, resolved}
use Rattle.go_core.specs.CoreView.{program_view}
use Rattle.go_core.specs.Goroutine.{the_value}
use Rattle.go_core.specs.Memory as core
use Rattle.go_core.specs.Memory.{Value}
use Rattle.go_values.specs.ValuesSeen.{scalar_of, value_of, values_of}
use Rattle.go_values.specs.declared.values.scalar.Scalar.{Scalar}
use Rattle.go_slices.proofs.SlicesScalarLemmas.{nil_seen}
use Rattle.go_slices.proofs.LevelLemmas.{listed_packed}
use Rattle.go_entries.proofs.EntriesScalarLemmas.{function_seen, bound_seen}
use Rattle.go_entries.proofs.entries.resolve.value_in.Goals as goal

pub returns-in_ok-operands-in-Function : goal.returns-in_ok-operands-in-Function
returns-in_ok-operands-in-Function c =
    let p = program_view c.args.p.now in
    record {
      value = λ ts at.
          let vs = values_of ts c.args.vs.now in
          ap (λ (xs : List (Bor (List Scalar))). ready c.in-Function.func c.in-Function.bases.now None (values_of ts xs)) c.in_ok-operands-in-Function.ensures.value
          ∙ sym (ap (λ (x : Scalar). resolved p the_value at ((scalar_of ts x ∷ []) ∷ vs)) c.in-Function.is
          ∙ ap (λ (x : core.Scalar). resolved p the_value at ((x ∷ []) ∷ vs)) (function_seen ts c.in-Function.func c.in-Function.bases));
    }

pub returns-in_ok-operands-in-BoundMethod : goal.returns-in_ok-operands-in-BoundMethod
returns-in_ok-operands-in-BoundMethod c =
    let p = program_view c.args.p.now in
    let receiver = c.in-BoundMethod.receiver in
    let row = c.in-BoundMethod.row in
    record {
      value = λ ts at.
          let vs = values_of ts c.args.vs.now in
          c.method_at.ensures.value ts
          ∙ ap (λ (us : List Value). method_with p us (Some row)) (c.in_ok-operands-in-BoundMethod.ensures.value ts)
          ∙ sym (ap (λ (x : Scalar). resolved p the_value at ((scalar_of ts x ∷ []) ∷ vs)) c.in-BoundMethod.is
          ∙ ap (λ (x : core.Scalar). resolved p the_value at ((x ∷ []) ∷ vs)) (bound_seen ts row receiver)
          ∙ ap (λ (v : Value). method_with p (v ∷ vs) (Some row)) (listed_packed (value_of ts receiver.now)));
    }

pub returns-in-Nil : goal.returns-in-Nil
returns-in-Nil c =
    let p = program_view c.args.p.now in
    record {
      value = λ ts at.
          let vs = values_of ts c.args.vs.now in
          sym (ap (λ (x : Scalar). resolved p the_value at ((scalar_of ts x ∷ []) ∷ vs)) c.in-Nil.is
          ∙ ap (λ (x : core.Scalar). resolved p the_value at ((x ∷ []) ∷ vs)) (nil_seen ts));
    }
