use Rattle.go_partners.proofs.waits.gates.set_gate.Goals as goal

pub returns : goal.returns
returns c = record { value = λ ts. c.write_value.ensures.value ts }
