use Rattle.std.proofs.Common.{refl, ap, sym, ◌∙◌, Option}
use Rattle.std.specs.Prelude.{Ok, option_map}
use Rattle.js_tree.specs.Value.{Value, gives}
use Rattle.js_tree.specs.Evaluate.{exec_all, exec_through, after_switch, go_on}
use Rattle.js_code.specs.Parts.{stmt_at, stmts_at, cases_at}
use Rattle.js_value.specs.HeapSeen.{value_of}
use Rattle.js_steps.specs.declared.frames.frame.Frame.TheVariants as frame
use Rattle.js_steps.specs.declared.frames.frame.Task.TheVariants.{Follow}
use Rattle.js_steps.specs.Moment.{flow, frame_in, flowing, called_here}
use Rattle.js_steps.specs.Stack.{caller_moment, flow_of, label_of, turned}
use Rattle.js_steps.specs.PopLaws.{with_caught, pops, pops_caught, pops_leave}
use Rattle.js_steps.proofs.On.{followed_on, left_flow, task_here, with_frame}
use Rattle.js_steps.proofs.Turned.{turned_here}
use Rattle.js_steps.proofs.steps.follow.follow.Goals as goal

pub returns-in-First : goal.returns-in-First
returns-in-First c = record { keeps = λ stack. followed_on stack c.args.state.now c.args.frame (frame.First c.in-First.field-0) c.args.completion c.in-First.is tt (λ st m. refl) }

pub returns-in-Second : goal.returns-in-Second
returns-in-Second c = record { keeps = λ stack. followed_on stack c.args.state.now c.args.frame (frame.Second c.in-Second.field-0 c.in-Second.field-1) c.args.completion c.in-Second.is tt (λ st m. refl) }

pub returns-in-Third : goal.returns-in-Third
returns-in-Third c = record { keeps = λ stack. followed_on stack c.args.state.now c.args.frame (frame.Third c.in-Third.field-0 c.in-Third.field-1 c.in-Third.field-2) c.args.completion c.in-Third.is tt (λ st m. refl) }

pub returns-in-Callee : goal.returns-in-Callee
returns-in-Callee c = record { keeps = λ stack. followed_on stack c.args.state.now c.args.frame (frame.Callee c.in-Callee.field-0 c.in-Callee.field-1) c.args.completion c.in-Callee.is tt (λ st m. refl) }

pub returns-in-Argument : goal.returns-in-Argument
returns-in-Argument c = record { keeps = λ stack. followed_on stack c.args.state.now c.args.frame (frame.Argument c.in-Argument.field-0 c.in-Argument.field-1 c.in-Argument.field-2 c.in-Argument.field-3 c.in-Argument.field-4) c.args.completion c.in-Argument.is tt (λ st m. refl) }

pub returns-in-Item : goal.returns-in-Item
returns-in-Item c = record { keeps = λ stack. followed_on stack c.args.state.now c.args.frame (frame.Item c.in-Item.field-0 c.in-Item.field-1) c.args.completion c.in-Item.is tt (λ st m. refl) }

pub returns-in-Catch : goal.returns-in-Catch
returns-in-Catch c = record { keeps = λ stack. followed_on stack c.args.state.now c.args.frame (frame.Catch c.in-Catch.field-0) c.args.completion c.in-Catch.is tt (λ st m. refl) }

pub returns-in-Rest : goal.returns-in-Rest
returns-in-Rest c = record {
  keeps = λ stack.
      let s = c.args.state.now in
      let x = flow_of c.args.completion in
      let f = frame.Rest c.in-Rest.rest in
      let r = Ok c.go_on.result in
      with_frame stack stack s s r c.args.frame f (λ _. gives (flow x)) c.in-Rest.is
      (pops stack stack s s r f (λ _. gives (flow x)) (λ st m. flowing m (go_on (exec_all st m.scope (stmts_at m.trees c.in-Rest.rest)) x (frame_in m))) tt (λ script choices fuel b vs _. refl) (task_here stack s c.go_on.result (λ st m. flowing m (go_on (exec_all st m.scope (stmts_at m.trees c.in-Rest.rest)) x (frame_in m))) (λ st m. sym (c.go_on.ensures.keeps st m (exec_all st m.scope (stmts_at m.trees c.in-Rest.rest)) refl))));
}

pub returns-in-Through : goal.returns-in-Through
returns-in-Through c = record {
  keeps = λ stack.
      let s = c.args.state.now in
      let x = flow_of c.args.completion in
      let f = frame.Through c.in-Through.rest in
      let r = Ok c.go_on-in-Through.result in
      with_frame stack stack s s r c.args.frame f (λ _. gives (flow x)) c.in-Through.is
      (pops stack stack s s r f (λ _. gives (flow x)) (λ st m. flowing m (go_on (exec_through st m.scope (cases_at m.trees c.in-Through.rest)) x (frame_in m))) tt (λ script choices fuel b vs _. refl) (task_here stack s c.go_on-in-Through.result (λ st m. flowing m (go_on (exec_through st m.scope (cases_at m.trees c.in-Through.rest)) x (frame_in m))) (λ st m. sym (c.go_on-in-Through.ensures.keeps st m (exec_through st m.scope (cases_at m.trees c.in-Through.rest)) refl))));
}

pub returns-in-Switch : goal.returns-in-Switch
returns-in-Switch c = record {
  keeps = λ stack.
      let s = c.args.state.now in
      let x = flow_of c.args.completion in
      let f = frame.Switch c.in-Switch.x in
      let r = Ok c.after_switch.result in
      with_frame stack stack s s r c.args.frame f (λ _. gives (flow x)) c.in-Switch.is
      (pops stack stack s s r f (λ _. gives (flow x)) (λ st m. flowing m (after_switch (label_of c.in-Switch.x) x (frame_in m))) tt (λ script choices fuel b vs _. refl) (task_here stack s c.after_switch.result (λ st m. flowing m (after_switch (label_of c.in-Switch.x) x (frame_in m))) (λ st m. sym (c.after_switch.ensures.keeps st m))));
}

pub returns-in-Turn : goal.returns-in-Turn
returns-in-Turn c = record {
  keeps = λ stack.
      let s = c.args.state.now in
      let x = flow_of c.args.completion in
      let f = frame.Turn c.in-Turn.i in
      let r = Ok c.after_turn.result in
      with_frame stack stack s s r c.args.frame f (λ _. gives (flow x)) c.in-Turn.is
      (pops stack stack s s r f (λ _. gives (flow x)) (λ st m. turned st (stmt_at m.trees c.in-Turn.i) x m) tt (λ script choices fuel b vs _. refl)
      (turned_here stack s c.in-Turn.i c.after_turn.result (label_of c.loop_label-label.result) x c.loop_label-label.ensures.value c.after_turn.ensures.keeps));
}

pub returns-in-Caught : goal.returns-in-Caught
returns-in-Caught c = record {
  keeps = λ stack.
      let s = c.args.state.now in
      let x = flow_of c.args.completion in
      let f = frame.Caught c.in-Caught.before in
      let s1 = with_caught s c.in-Caught.before in
      let r = Ok (Follow c.args.completion) in
      with_frame stack stack s s1 r c.args.frame f (λ _. gives (flow x)) c.in-Caught.is
      (pops_caught stack stack s s1 r c.in-Caught.before (λ _. gives (flow x)) (λ _. gives (flow x)) (λ st m. refl) (task_here stack s1 (Follow c.args.completion) (λ _. gives (flow x)) (λ st m. refl)));
}

pub returns : goal.returns
returns c = record {
  keeps = λ stack.
      let s = c.args.state.now in
      let x = flow_of c.args.completion in
      let f = frame.Leave c.in-Leave.at c.in-Leave.usage c.in-Leave.caller in
      let s1 = c.leave.new.state in
      let r = c.called.result in
      let at = c.in-Leave.at in
      let u = c.in-Leave.usage in
      with_frame stack stack s s1 r c.args.frame f (λ _. gives (flow x)) c.in-Leave.is
      (pops_leave stack stack s s1 s1 r at u c.in-Leave.caller (λ _. gives (flow x)) (λ _ m. called_here at u m (gives (option_map value_of c.returned.result) m.world)) c.in_ok-leave-in-Leave.ensures.value
      (λ st ls m. left_flow at u x (caller_moment c.in-Leave.caller ls m) ∙ ap (λ (o : Option Value). called_here at u (caller_moment c.in-Leave.caller ls m) (gives o m.world)) (sym c.returned.ensures.value)) (c.called.ensures.keeps stack s1));
}
