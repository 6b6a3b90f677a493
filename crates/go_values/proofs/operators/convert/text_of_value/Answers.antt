use Rattle.std.proofs.Common.{sym, subst, List}
use Rattle.go_type.specs.Tree.{int}
use Rattle.go_core.specs.StepNumbers.{slice_to_text}
use Rattle.go_values.specs.ValuesSeen.{value_of, memory_of}
use Rattle.go_values.specs.declared.values.scalar.Scalar.{Scalar}
use Rattle.go_values.specs.OperatorsSeen.{Does}
use Rattle.go_values.proofs.Only.{only}
use Rattle.go_values.proofs.operators.convert.text_of_value.Goals as goal

pub returns-in-len1 : goal.returns-in-len1
returns-in-len1 c =
    let e = only c.args.x.now c.x-item.result c.in-len1.len_at_least c.in-len1.len_below c.x-item.is in
    record {
      value = λ ts ns name h.
          let s = memory_of ts c.args.m.now in
          subst (λ (xs : List Scalar). Does ts s c.text_of_slice.result (slice_to_text ns (int name) (value_of ts xs) s)) (sym e) (c.text_of_slice.ensures.value ts ns name h);
    }
