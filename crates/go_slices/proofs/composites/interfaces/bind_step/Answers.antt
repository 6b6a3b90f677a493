use Rattle.std.proofs.Common.{◌≡◌, ◌∙◌, sym, ap, subst, ℕ, List, Option}
use Rattle.go_type.specs.declared.table.TypeTable.{TypeTable}
use Rattle.go_type.specs.Levels.{tree_of}
use Rattle.go_type.specs.Table.{places, names}
use Rattle.go_core.specs.CoreTree.{MethodName}
use Rattle.go_core.specs.CoreView.{program_view, method_of}
use Rattle.go_core.specs.Layout.{shape_of, weight}
use Rattle.go_core.specs.StepInterfaces.{bound_or_not, row_of}
use Rattle.go_values.specs.ValuesSeen.{value_of}
use Rattle.go_values.proofs.Steps.{goes}
use Rattle.go_slices.proofs.composites.interfaces.bind_step.Goals as goal

pub returns : goal.returns
returns c =
    let p = program_view c.args.p.now in
    let ts = places c.args.p.now.types in
    let method = c.args.method.now in
    let x = value_of ts c.args.x.now in
    let units = subst (λ (u : TypeTable). c.in_ok-units.units ≡ weight (shape_of (names u) (tree_of (places u) method.ty))) c.requires c.in_ok-units.ensures.value in
    let row =
    c.row_of-row.ensures.value
    ∙ ap (λ (n : List ℕ). row_of p (let r : MethodName = record { type_ = tree_of ts method.ty; name = n; package_ = c.as_bytes-2.result.now } in r)) c.as_bytes.ensures
    ∙ ap (λ (n : List ℕ). row_of p (let r : MethodName = record { type_ = tree_of ts method.ty; name = method.name; package_ = n } in r)) c.as_bytes-2.ensures in
    record {
      value = λ m.
          goes ts m c.bound_or_not.result _ _
          (ap (λ (n : ℕ). bound_or_not m n x (row_of p (method_of ts method))) (sym units)
          ∙ ap (λ (r : Option ℕ). bound_or_not m c.in_ok-units.units x r) (sym row))
          (c.bound_or_not.ensures.value ts m);
    }
