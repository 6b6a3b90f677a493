use Rattle.std.proofs.Common.{sym, subst, List}
use Rattle.go_core.specs.Did.{on_truth}
use Rattle.go_values.specs.ValuesSeen.{value_of}
use Rattle.go_values.specs.declared.values.scalar.Scalar.{Scalar}
use Rattle.go_values.specs.OperatorsSeen.{Found}
use Rattle.go_values.proofs.Only.{only}
use Rattle.go_values.proofs.operators.did.as_truth.Goals as goal

pub returns-in-len1 : goal.returns-in-len1
returns-in-len1 c =
    let e = only c.args.x.now c.x-item.result c.in-len1.len_at_least c.in-len1.len_below c.x-item.is in
    record { value = λ ts. subst (λ (xs : List Scalar). Found (λ b. b) c.truth_in.result (on_truth (value_of ts xs))) (sym e) (c.truth_in.ensures.value ts) }
