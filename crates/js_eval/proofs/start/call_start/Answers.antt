use Rattle.js_eval.specs.Seen.{world_of}
use Rattle.js_eval.proofs.Follows.{stops_then}
use Rattle.js_eval.proofs.Parts.{stopped, value_goes}
use Rattle.js_eval.proofs.start.call_start.Goals as goal

pub returns-in_err-f-2 : goal.returns-in_err-f-2
returns-in_err-f-2 c = record { value = λ d. stopped d _ c.from_residual-in_err-f-2.result _ _ _ _ c.from_residual-in_err-f-2.ensures.1 (stops_then d _ _ _ _ _ (rw (c.in_ok-f.ensures.value d) at (c.in_err-f-2.ensures.value d (world_of c.args.world.now)))) }

pub returns : goal.returns
returns c = record { value = λ d. value_goes d _ _ _ _ _ _ _ _ (rw (c.in_ok-f.ensures.value d) at (c.in_ok-f-2.ensures.value d (world_of c.args.world.now))) (rw c.new.ensures.items at (c.call_value.ensures.value d)) }
