use Rattle.js_steps.proofs.Bound.{bound_in_slots}
use Rattle.js_steps.proofs.calls.function.bind.Goals as goal

pub returns : goal.returns
returns c = record {
  value =
      bound_in_slots c.args.slots.now.items c.fill.new.slots.items c.leave_empty.new.slots.items c.args.values.now c.args.count c.saturating_sub.result c.in_ok-fill.ensures.value c.in_ok-leave_empty.ensures.value
      c.saturating_sub.ensures;
}
