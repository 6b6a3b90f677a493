use Rattle.std.proofs.Common.{ap, ◌∙◌}
use Rattle.js_steps.specs.declared.frames.frame.Caller.{Caller}
use Rattle.js_steps.specs.declared.frames.state.State.{State}
use Rattle.js_simple.specs.Seen.{slots_in}
use Rattle.js_steps.proofs.Entered.{begun_in}
use Rattle.js_steps.proofs.calls.function.enter.Goals as goal

pub returns : goal.returns
returns c = record {
  keeps = λ f count script choices fuel b vs l isf h.
      let s = c.args.state.now in
      let x : State = record s { locals = c.replace-locals.new.dest; spare = c.leave_values.new.spare } in
      let aside : Caller = record { body = s.body; locals = c.replace-locals.result; caught = s.caught } in
      let slots = ap (λ v. slots_in v.items) c.replace-locals.ensures.after ∙ c.in_ok-bind.ensures.value in
      begun_in script choices fuel b vs c.args.stack.now.items s x f c.args.body c.args.at c.args.usage c.args.values.items c.as_slice.result.now c.push.new.self.items aside c.no_slots-slots.result.items
      (ap (λ v. let k : Caller = record { body = s.body; locals = v; caught = s.caught } in k) c.replace-locals.ensures.value) c.no_slots-slots.ensures slots c.as_slice.ensures.value c.in_ok-push.ensures.items l isf h count;
}
