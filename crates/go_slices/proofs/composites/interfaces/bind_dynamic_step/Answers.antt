use Rattle.std.proofs.Common.{sym, subst, List}
use Rattle.go_type.specs.Table.{places}
use Rattle.go_core.specs.CoreView.{program_view}
use Rattle.go_core.specs.StepInterfaces.{bind_dynamic_step}
use Rattle.go_values.specs.ValuesSeen.{value_of}
use Rattle.go_values.specs.declared.values.scalar.Scalar.{Scalar}
use Rattle.go_values.specs.OperatorsSeen.{Does}
use Rattle.go_values.proofs.Only.{only}
use Rattle.go_slices.proofs.composites.interfaces.bind_dynamic_step.Goals as goal

pub returns-in-len1 : goal.returns-in-len1
returns-in-len1 c =
    let e = only c.args.x.now c.x-item.result c.in-len1.len_at_least c.in-len1.len_below c.x-item.is in
    let w = c.args.p.now.types in
    let ts = places w in
    record { value = λ m. subst (λ (xs : List Scalar). Does ts m c.bound_dynamic.result (bind_dynamic_step (program_view c.args.p.now) c.args.name.now c.args.«package».now (value_of ts xs) m)) (sym e) (c.bound_dynamic.ensures.value m) }
