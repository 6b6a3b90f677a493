use Rattle.std.proofs.Common.{ap, List}
use Rattle.std.specs.Borrow.{Bor}
use Rattle.go_core.specs.Did.{on_two}
use Rattle.go_values.specs.ValuesSeen.{values_of}
use Rattle.go_values.specs.declared.values.scalar.Scalar.{Scalar}
use Rattle.go_slices.proofs.SlicesListLemmas.{nothing, two_values}
use Rattle.go_slices.proofs.composites.operator.two.Goals as goal

pub returns-in-len2 : goal.returns-in-len2
returns-in-len2 c =
    let e = two_values c.args.vs.now nothing c.in-len2.len_at_least c.in-len2.len_below in
    record { value = λ ts f. ap (λ (us : List (Bor (List Scalar))). on_two (values_of ts us) f) e }
