use Rattle.js_eval.proofs.Follows.{stops_then}
use Rattle.js_eval.proofs.Parts.{stopped}
use Rattle.js_eval.proofs.calls.print.Goals as goal

pub returns-in_err-tick : goal.returns-in_err-tick
returns-in_err-tick c = record { value = λ d. stopped d _ c.from_residual.result _ _ _ _ c.from_residual.ensures.1 (stops_then d _ _ _ _ _ (c.in_err-tick.ensures.value d)) }

pub returns : goal.returns
returns c = record { value = λ d. rw (c.in_ok-tick.ensures.value d, c.in_ok-extend_from_slice.ensures.items) }
