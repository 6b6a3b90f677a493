use Rattle.std.specs.Prelude.{Ok, Err}
use Rattle.js_code.specs.Places.{host_of}
use Rattle.js_steps.specs.declared.frames.state.State.{State}
use Rattle.js_steps.proofs.Callees.{host_list, spared}
use Rattle.js_steps.proofs.Goes.{same_kept}
use Rattle.js_steps.proofs.calls.value.call_outside.Goals as goal

pub returns : goal.returns
returns c = record {
  keeps = λ stack script choices fuel b vs h.
      let s = c.call_host.new.state in
      let x : State = record s { spare = c.leave_values.new.spare } in
      spared script choices fuel b _ stack s x c.in_ok-task.task
      (host_list stack c.args.state.now s (Ok c.in_ok-task.task) c.args.at c.args.usage (host_of c.args.host) c.as_slice.result.now c.args.values.items c.as_slice.ensures.value (c.in_ok-task.ensures.keeps stack) script choices fuel b vs h);
}

pub returns-in_err-task : goal.returns-in_err-task
returns-in_err-task c = record {
  keeps = λ stack script choices fuel b vs h.
      same_kept script choices fuel b _ stack c.call_host.new.state c.from_residual.result _ c.from_residual.ensures.1
      (host_list stack c.args.state.now c.call_host.new.state (Err _) c.args.at c.args.usage (host_of c.args.host) c.as_slice.result.now c.args.values.items c.as_slice.ensures.value (c.in_err-task.ensures.keeps stack) script choices fuel b vs h);
}
