use Rattle.js_simple.proofs.eval.local.Goals as goal

pub returns : goal.returns
returns c = record { value = λ w. rw (← c.slot_value.ensures.value) (c.given.ensures.value w) }
