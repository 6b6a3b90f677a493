use Rattle.std.proofs.Common.{sym, subst, List}
use Rattle.go_core.specs.StepMemory.{deref_step}
use Rattle.go_values.specs.ValuesSeen.{value_of}
use Rattle.go_values.specs.declared.values.scalar.Scalar.{Scalar}
use Rattle.go_values.specs.OperatorsSeen.{Does}
use Rattle.go_values.proofs.Only.{only}
use Rattle.go_values.proofs.operators.places.deref_step.Goals as goal

pub returns-in-len1 : goal.returns-in-len1
returns-in-len1 c =
    let e = only c.args.x.now c.x-item.result c.in-len1.len_at_least c.in-len1.len_below c.x-item.is in
    record { value = λ ts m. subst (λ (xs : List Scalar). Does ts m c.deref_in.result (deref_step (value_of ts xs) m)) (sym e) (c.deref_in.ensures.value ts m) }
