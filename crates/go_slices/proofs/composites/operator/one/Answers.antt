use Rattle.std.proofs.Common.{ap, List}
use Rattle.std.specs.Borrow.{Bor}
use Rattle.go_core.specs.Did.{on_one}
use Rattle.go_values.specs.ValuesSeen.{values_of}
use Rattle.go_values.specs.declared.values.scalar.Scalar.{Scalar}
use Rattle.go_slices.proofs.SlicesListLemmas.{nothing, one_value}
use Rattle.go_slices.proofs.composites.operator.one.Goals as goal

pub returns-in-len1 : goal.returns-in-len1
returns-in-len1 c =
    let e = one_value c.args.vs.now nothing c.in-len1.len_at_least c.in-len1.len_below in
    record { value = λ ts f. ap (λ (us : List (Bor (List Scalar))). on_one (values_of ts us) f) e }
