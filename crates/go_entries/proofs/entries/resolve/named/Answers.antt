use Rattle.std.proofs.Common.{◌∙◌, ap, ℕ, List}
use Rattle.std.specs.Borrow.{Bor}
use Rattle.go_type.specs.Levels.{tree_of}
use Rattle.go_type.specs.Table.{places}
use Rattle.go_core.specs.Calls.{method_with}
use Rattle.go_core.specs.CoreTree.{MethodName}
use Rattle.go_core.specs.CoreView.{program_view}
use Rattle.go_core.specs.StepInterfaces.{row_of}
use Rattle.go_values.specs.ValuesSeen.{values_of}
use Rattle.go_values.specs.declared.values.scalar.Scalar.{Scalar}
use Rattle.go_entries.proofs.entries.resolve.named.Goals as goal

pub returns : goal.returns
returns c =
    let p = program_view c.args.p.now in
    let ts = places c.args.p.now.types in
    let method = c.args.name.now in
    let row =
    c.row_of-row.ensures.value
    ∙ ap (λ (n : List ℕ). row_of p (let r : MethodName = record { type_ = tree_of ts method.ty; name = n; package_ = c.as_bytes-2.result.now } in r)) c.as_bytes.ensures
    ∙ ap (λ (n : List ℕ). row_of p (let r : MethodName = record { type_ = tree_of ts method.ty; name = method.name; package_ = n } in r)) c.as_bytes-2.ensures in
    record {
      value = λ at.
          c.method.ensures.value ts
          ∙ ap (λ (xs : List (Bor (List Scalar))). method_with p (values_of ts xs) c.row_of-row.result) c.in_ok-operands.ensures.value
          ∙ ap (method_with p (values_of ts c.args.vs.now)) row;
    }
