use Rattle.std.proofs.Common.{ap, sym, ◌∙◌, [], ◌∷◌}
use Rattle.std.specs.Prelude.{Some}
use Rattle.go_state.specs.StateSeen.{stack_of}
use Rattle.go_state.proofs.StackLemmas.{stack_append}
use Rattle.go_state.proofs.state.next.pass.Goals as goal

pub returns-in_ok-push-in-Push-clause-past : goal.returns-in_ok-push-in-Push-clause-past
returns-in_ok-push-in-Push-clause-past c = λ ts.
    rw c.in-Push.is (ap Some (sym (ap (stack_of ts) c.in_ok-push-in-Push.ensures.items ∙ stack_append ts c.args.values.now.items (c.in-Push.x ∷ []))))
