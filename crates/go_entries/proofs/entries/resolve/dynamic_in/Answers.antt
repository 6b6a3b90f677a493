use Rattle.std.proofs.Common.{◌∙◌, ◌∷◌, [], sym, ap, List}
use Rattle.go_type.specs.Levels.{tree_of}
use Rattle.go_type.specs.Table.{places}
use Rattle.go_core.specs.Calls.{method_with, resolved}
use Rattle.go_core.specs.CoreTree.{MethodName}
use Rattle.go_core.specs.CoreView.{program_view}
use Rattle.go_core.specs.Goroutine.{the_dynamic}
use Rattle.go_core.specs.Memory as core
use Rattle.go_core.specs.Memory.{Value}
use Rattle.go_core.specs.StepInterfaces.{row_of}
use Rattle.go_values.specs.ValuesSeen.{scalar_of, value_of, values_of}
use Rattle.go_values.specs.declared.values.scalar.Scalar.{Scalar}
use Rattle.go_slices.proofs.SlicesScalarLemmas.{nil_seen}
use Rattle.go_slices.proofs.LevelLemmas.{listed_packed}
use Rattle.go_slices.proofs.CompositesScalarLemmas.{interface_seen}
use Rattle.go_entries.proofs.entries.resolve.dynamic_in.Goals as goal

pub returns-in_ok-operands-in-Interface : goal.returns-in_ok-operands-in-Interface
returns-in_ok-operands-in-Interface c =
    let p = program_view c.args.p.now in
    let ts = places c.args.p.now.types in
    let t = c.in-Interface.ty in
    let content = c.in-Interface.content in
    let name = c.args.name.now in
    let package_ = c.args.«package».now in
    let n : MethodName = record { type_ = tree_of ts t; name = name; package_ = package_ } in
    let vs = values_of ts c.args.vs.now in
    record {
      value = λ at.
          c.method.ensures.value ts
          ∙ ap (λ (us : List Value). method_with p us c.row_of-row.result) (c.in_ok-operands-in-Interface.ensures.value ts)
          ∙ ap (method_with p (value_of ts content.now ∷ vs)) c.row_of-row.ensures.value
          ∙ sym (ap (λ (x : Scalar). resolved p (the_dynamic name package_) at ((scalar_of ts x ∷ []) ∷ vs)) c.in-Interface.is
          ∙ ap (λ (x : core.Scalar). resolved p (the_dynamic name package_) at ((x ∷ []) ∷ vs)) (interface_seen ts t content)
          ∙ ap (λ (v : Value). method_with p (v ∷ vs) (row_of p n)) (listed_packed (value_of ts content.now)));
    }

pub returns-in-Nil : goal.returns-in-Nil
returns-in-Nil c =
    let p = program_view c.args.p.now in
    let ts = places c.args.p.now.types in
    let vs = values_of ts c.args.vs.now in
    let called = the_dynamic c.args.name.now c.args.«package».now in
    record {
      value = λ at.
          sym (ap (λ (x : Scalar). resolved p called at ((scalar_of ts x ∷ []) ∷ vs)) c.in-Nil.is
          ∙ ap (λ (x : core.Scalar). resolved p called at ((x ∷ []) ∷ vs)) (nil_seen ts));
    }
