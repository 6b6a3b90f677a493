use Rattle.std.proofs.Common.{sym, subst, List}
use Rattle.go_type.specs.Table.{places, names}
use Rattle.go_core.specs.StepInterfaces.{basic_step}
use Rattle.go_values.specs.ValuesSeen.{value_of}
use Rattle.go_values.specs.declared.values.scalar.Scalar.{Scalar}
use Rattle.go_values.specs.OperatorsSeen.{Does}
use Rattle.go_values.proofs.Only.{only}
use Rattle.go_slices.proofs.composites.interfaces.basic_step.Goals as goal

pub returns-in-len1 : goal.returns-in-len1
returns-in-len1 c =
    let e = only c.args.x.now c.x-item.result c.in-len1.len_at_least c.in-len1.len_below c.x-item.is in
    let w = c.args.c.now.table.now in
    let ts = places w in
    record { value = λ m. subst (λ (xs : List Scalar). Does ts m c.basic_scalar.result (basic_step (names w) (value_of ts xs) m)) (sym e) (c.basic_scalar.ensures.value m) }
