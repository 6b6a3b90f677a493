use Rattle.js_eval.proofs.Follows.{stops_then}
use Rattle.js_eval.proofs.Parts.{stopped, value_goes}
use Rattle.js_eval.proofs.start.run_all.Goals as goal

pub returns-in_err-set_globals : goal.returns-in_err-set_globals
returns-in_err-set_globals c = record { value = λ d. stopped d _ c.from_residual.result _ _ _ _ c.from_residual.ensures.1 (stops_then d _ _ _ _ _ (c.in_err-set_globals.ensures.value d)) }

pub returns : goal.returns
returns c = record { value = λ d. value_goes d _ _ _ _ _ _ _ _ (c.in_ok-set_globals.ensures.value d) (c.call_start.ensures.value d) }
