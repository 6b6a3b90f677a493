use Rattle.std.proofs.Common.{refl}
use Rattle.js_steps.proofs.Caught.{on_any}
use Rattle.js_steps.proofs.flow.back.leave.Goals as goal

pub returns : goal.returns
returns c = record { value = on_any c.leave_slots.result (record { left = refl; objects = refl; globals = refl; body = refl; locals = c.replace-slots.ensures.after; caught = refl }) }
