use Rattle.std.proofs.Common.{ap}
use Rattle.js_code.specs.Held.{part_of}
use Rattle.js_steps.proofs.flow.order.is_end.Goals as goal

pub returns-in-Done : goal.returns-in-Done
returns-in-Done c = record { value = λ _. ap part_of c.in-Done.is }

pub returns-in_default : goal.returns-in_default
returns-in_default c = record { value = λ h. cc }
