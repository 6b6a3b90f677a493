use Rattle.go_state.proofs.state.next.dropped_by.Goals as goal

pub returns-in-Do : goal.returns-in-Do
returns-in-Do c = record { value = λ ts. rw c.in-Do.is (c.dropped_at.ensures.value ts) }
