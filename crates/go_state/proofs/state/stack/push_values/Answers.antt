use Rattle.std.proofs.Common.{ap, ◌∙◌}
use Rattle.go_state.specs.StateSeen.{stack_of}
use Rattle.go_state.proofs.StackLemmas.{stack_append}
use Rattle.go_state.proofs.state.stack.push_values.Goals as goal

pub returns : goal.returns
returns c = record { value = λ ts. ap (stack_of ts) c.in_ok-extend_from_slice.ensures.items ∙ stack_append ts c.args.values.now.items c.args.xs.now }
