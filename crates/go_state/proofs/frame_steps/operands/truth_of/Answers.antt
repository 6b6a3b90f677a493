use Rattle.std.proofs.Common.{sym, subst, List}
use Rattle.go_values.specs.ValuesSeen.{value_of}
use Rattle.go_values.specs.declared.values.scalar.Scalar.{Scalar}
use Rattle.go_values.proofs.Only.{only}
use Rattle.go_state.specs.FrameStepsFound.{Chooses}
use Rattle.go_state.proofs.frame_steps.operands.truth_of.Goals as goal

pub returns-in-len1 : goal.returns-in-len1
returns-in-len1 c =
    let e = only c.args.x.now c.x-item.result c.in-len1.len_at_least c.in-len1.len_below c.x-item.is in
    record { value = λ ts. subst (λ (xs : List Scalar). Chooses c.truth_in.result (value_of ts xs)) (sym e) (c.truth_in.ensures.value ts) }
