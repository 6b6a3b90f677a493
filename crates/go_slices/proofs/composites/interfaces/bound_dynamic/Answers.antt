use Rattle.std.proofs.Common.{◌≡◌, ◌∙◌, ◌∷◌, [], sym, ap, subst, ℕ, Option}
use Rattle.go_type.specs.declared.table.TypeTable.{TypeTable}
use Rattle.go_type.specs.Levels.{tree_of}
use Rattle.go_type.specs.Table.{places, names}
use Rattle.go_core.specs.CoreTree.{MethodName}
use Rattle.go_core.specs.CoreView.{program_view}
use Rattle.go_core.specs.Layout.{shape_of, weight}
use Rattle.go_core.specs.Memory as core
use Rattle.go_core.specs.Memory.{Value}
use Rattle.go_core.specs.StepInterfaces.{bind_dynamic_step, bound_or_not, row_of}
use Rattle.go_values.specs.ValuesSeen.{scalar_of, value_of}
use Rattle.go_values.specs.declared.values.scalar.Scalar.{Scalar}
use Rattle.go_values.proofs.Steps.{goes}
use Rattle.go_slices.proofs.LevelLemmas.{listed_packed}
use Rattle.go_slices.proofs.CompositesScalarLemmas.{interface_seen}
use Rattle.go_slices.proofs.composites.interfaces.bound_dynamic.Goals as goal

pub returns-in_ok-units-in-Interface : goal.returns-in_ok-units-in-Interface
returns-in_ok-units-in-Interface c =
    let p = program_view c.args.p.now in
    let ts = places c.args.p.now.types in
    let t = c.in-Interface.ty in
    let name = c.args.name.now in
    let package_ = c.args.«package».now in
    let held = value_of ts c.in-Interface.content.now in
    let n : MethodName = record { type_ = tree_of ts t; name = name; package_ = package_ } in
    let wanted = weight (shape_of (names c.args.p.now.types) (tree_of ts t)) in
    let units = subst (λ (u : TypeTable). c.in_ok-units-in-Interface.units ≡ weight (shape_of (names u) (tree_of (places u) t))) c.requires c.in_ok-units-in-Interface.ensures.value in
    record {
      value = λ m.
          goes ts m c.bound_or_not.result _ _
          (ap (λ (x : Scalar). bind_dynamic_step p name package_ (scalar_of ts x ∷ []) m) c.in-Interface.is
          ∙ ap (λ (x : core.Scalar). bind_dynamic_step p name package_ (x ∷ []) m) (interface_seen ts t c.in-Interface.content)
          ∙ ap (λ (v : Value). bound_or_not m wanted v (row_of p n)) (listed_packed held)
          ∙ ap (λ (k : ℕ). bound_or_not m k held (row_of p n)) (sym units)
          ∙ ap (λ (r : Option ℕ). bound_or_not m c.in_ok-units-in-Interface.units held r) (sym c.row_of-row.ensures.value))
          (c.bound_or_not.ensures.value ts m);
    }
