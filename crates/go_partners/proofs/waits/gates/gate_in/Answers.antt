use Rattle.std.proofs.Common.{sym, subst, List}
use Rattle.go_core.specs.Communicate.{with_gate}
use Rattle.go_values.specs.ValuesSeen.{value_of}
use Rattle.go_values.specs.declared.values.scalar.Scalar.{Scalar}
use Rattle.go_values.proofs.Only.{only}
use Rattle.go_partners.specs.Gates.{IsGate}
use Rattle.go_partners.proofs.waits.gates.gate_in.Goals as goal

pub returns-in-len1 : goal.returns-in-len1
returns-in-len1 c =
    let e = only c.args.x.now c.x-item.result c.in-len1.len_at_least c.in-len1.len_below c.x-item.is in
    record { value = λ ts p g free f. subst (λ (xs : List Scalar). IsGate c.pointed.result f (λ k. with_gate p g free k (value_of ts xs) f)) (sym e) (c.pointed.ensures.value ts p g free f) }
