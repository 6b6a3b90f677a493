use Rattle.std.proofs.Common.{option_map}
use Rattle.js_value.specs.HeapSeen.{value_of}
use Rattle.js_steps.specs.ChoiceLaws.{given_goes, given_stops}
use Rattle.js_steps.proofs.frames.step.given.Goals as goal

pub returns : goal.returns
returns c = record { keeps = λ stack s. given_goes stack s c.args.at (option_map value_of c.args.value) c.in_ok-v.v c.in_ok-v.ensures.value }

pub returns-in_err-v : goal.returns-in_err-v
returns-in_err-v c = record {
  keeps = λ stack s. given_stops stack s c.from_residual.result c.args.at (option_map value_of c.args.value) _ c.from_residual.ensures.1 c.in_err-v.ensures.value;
}
