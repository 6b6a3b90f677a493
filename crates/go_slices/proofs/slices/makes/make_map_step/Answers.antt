use Rattle.std.proofs.Common.{sym, subst, List}
use Rattle.go_core.specs.StepSlices.{make_map_step}
use Rattle.std.specs.Borrow.{Bor}
use Rattle.go_values.specs.ValuesSeen.{values_of, memory_of}
use Rattle.go_values.specs.declared.values.scalar.Scalar.{Scalar}
use Rattle.go_values.specs.OperatorsSeen.{Does}
use Rattle.go_slices.proofs.SlicesListLemmas.{one_value, nothing}
use Rattle.go_slices.proofs.slices.makes.make_map_step.Goals as goal

pub returns-in-len1 : goal.returns-in-len1
returns-in-len1 c =
    let e = one_value c.args.vs.now nothing c.in-len1.len_at_least c.in-len1.len_below in
    record {
      value = λ ts.
          let s = memory_of ts c.args.m.now in
          subst (λ (us : List (Bor (List Scalar))). Does ts s c.map_with_count.result (make_map_step (values_of ts us) s)) (sym e) (c.map_with_count.ensures.value ts);
    }
