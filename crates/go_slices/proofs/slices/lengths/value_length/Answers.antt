use Rattle.std.proofs.Common.{sym, subst, List}
use Rattle.go_core.specs.StepSlices.{scalar_length}
use Rattle.go_values.specs.ValuesSeen.{value_of, memory_of}
use Rattle.go_values.specs.declared.values.scalar.Scalar.{Scalar}
use Rattle.go_values.specs.OperatorsSeen.{Does}
use Rattle.go_values.proofs.Only.{only}
use Rattle.go_slices.proofs.slices.lengths.value_length.Goals as goal

pub returns-in-len1 : goal.returns-in-len1
returns-in-len1 c =
    let e = only c.args.x.now c.x-item.result c.in-len1.len_at_least c.in-len1.len_below c.x-item.is in
    record { value = λ ts. subst (λ (xs : List Scalar). Does ts (memory_of ts c.args.m.now) c.scalar_length.result (scalar_length (value_of ts xs) (memory_of ts c.args.m.now))) (sym e) (c.scalar_length.ensures.value ts) }
