use Rattle.std.proofs.Common.{refl, ap, sym, [], ◌∷◌, ◌++◌, List, slice_get, None}
use Rattle.std.specs.Prelude.{Ok}
use Rattle.js_tree.specs.Value.{Value, gives}
use Rattle.js_code.specs.Parts.{exprs_at}
use Rattle.js_value.specs.HeapSeen.{value_of, values_of}
use Rattle.js_steps.specs.declared.frames.frame.Frame.TheVariants as frame
use Rattle.js_steps.specs.declared.frames.frame.Task.TheVariants.{Give}
use Rattle.js_steps.specs.Moment.{value, arguments_do, elements_do, called_here}
use Rattle.js_steps.specs.PartWaits.{first_does, second_does, third_does, callee_does}
use Rattle.js_steps.specs.PopLaws.{with_caught, pops_in, pops_caught, pops_leave, steps_in}
use Rattle.js_steps.proofs.On.{given_on, in_frame, one_more, task_here}
use Rattle.js_steps.proofs.steps.give.give.Goals as goal

pub returns-in-First : goal.returns-in-First
returns-in-First c = record {
  keeps =
      let env = c.args.env.now in
      let s = c.args.state.now in
      let stack = c.args.stack.now.items in
      let v = value_of c.args.v in
      let f = frame.First c.in-First.i in
      in_frame env stack c.give_first.new.stack.items s c.give_first.new.state c.give_first.result c.args.frame f (λ _. gives (value v)) c.in-First.is
      (pops_in env stack c.give_first.new.stack.items s c.give_first.new.state c.give_first.result f (λ _. gives (value v)) (λ st m. first_does st (slice_get m.trees c.in-First.i) v m) tt (λ st m. refl) (steps_in env stack c.give_first.new.stack.items s c.give_first.new.state c.give_first.result (λ st m. first_does st (slice_get m.trees c.in-First.i) v m) c.give_first.ensures.keeps));
}

pub returns-in-Second : goal.returns-in-Second
returns-in-Second c = record {
  keeps =
      let env = c.args.env.now in
      let s = c.args.state.now in
      let stack = c.args.stack.now.items in
      let v = value_of c.args.v in
      let f = frame.Second c.in-Second.i c.in-Second.u in
      in_frame env stack c.give_second.new.stack.items s c.give_second.new.state c.give_second.result c.args.frame f (λ _. gives (value v)) c.in-Second.is
      (pops_in env stack c.give_second.new.stack.items s c.give_second.new.state c.give_second.result f (λ _. gives (value v)) (λ st m. second_does st (slice_get m.trees c.in-Second.i) (value_of c.in-Second.u) v m) tt (λ st m. refl) (steps_in env stack c.give_second.new.stack.items s c.give_second.new.state c.give_second.result (λ st m. second_does st (slice_get m.trees c.in-Second.i) (value_of c.in-Second.u) v m) c.give_second.ensures.keeps));
}

pub returns-in-Third : goal.returns-in-Third
returns-in-Third c = record {
  keeps =
      let env = c.args.env.now in
      let s = c.args.state.now in
      let stack = c.args.stack.now.items in
      let v = value_of c.args.v in
      let f = frame.Third c.in-Third.i c.in-Third.u c.in-Third.w in
      in_frame env stack stack s c.give_third.new.state c.give_third.result c.args.frame f (λ _. gives (value v)) c.in-Third.is
      (pops_in env stack stack s c.give_third.new.state c.give_third.result f (λ _. gives (value v)) (λ st m. third_does (slice_get m.trees c.in-Third.i) (value_of c.in-Third.u) (value_of c.in-Third.w) v m) tt (λ st m. refl) (steps_in env stack stack s c.give_third.new.state c.give_third.result (λ st m. third_does (slice_get m.trees c.in-Third.i) (value_of c.in-Third.u) (value_of c.in-Third.w) v m) (c.give_third.ensures.keeps stack)));
}

pub returns-in-Callee : goal.returns-in-Callee
returns-in-Callee c = record {
  keeps =
      let env = c.args.env.now in
      let s = c.args.state.now in
      let stack = c.args.stack.now.items in
      let v = value_of c.args.v in
      let f = frame.Callee c.in-Callee.i c.in-Callee.usage in
      in_frame env stack c.give_callee.new.stack.items s c.give_callee.new.state c.give_callee.result c.args.frame f (λ _. gives (value v)) c.in-Callee.is
      (pops_in env stack c.give_callee.new.stack.items s c.give_callee.new.state c.give_callee.result f (λ _. gives (value v)) (λ st m. callee_does st c.in-Callee.usage (slice_get m.trees c.in-Callee.i) v m) tt (λ st m. refl) (c.give_callee.ensures.keeps));
}

pub returns-in_ok-push-in-Argument : goal.returns-in_ok-push-in-Argument
returns-in_ok-push-in-Argument c = record {
  keeps =
      let env = c.args.env.now in
      let s = c.args.state.now in
      let stack = c.args.stack.now.items in
      let v = value_of c.args.v in
      let f = frame.Argument c.in-Argument.at c.in-Argument.usage c.in-Argument.callee c.in-Argument.values c.in-Argument.rest in
      let new = c.arguments.new.stack.items in
      let s1 = c.arguments.new.state in
      let vs = c.push.new.self.items in
      let q = one_more c.in-Argument.values.items vs c.args.v c.in_ok-push-in-Argument.ensures.items in
      in_frame env stack new s s1 c.arguments.result c.args.frame f (λ _. gives (value v)) c.in-Argument.is
      (pops_in env stack new s s1 c.arguments.result f (λ _. gives (value v)) (λ st m. arguments_do st c.in-Argument.at c.in-Argument.usage (value_of c.in-Argument.callee) (values_of vs) (exprs_at m.trees c.in-Argument.rest) m) tt
      (λ st m. ap (λ (zs : List Value). arguments_do st c.in-Argument.at c.in-Argument.usage (value_of c.in-Argument.callee) zs (exprs_at m.trees c.in-Argument.rest) m) (sym q)) c.arguments.ensures.keeps);
}

pub returns-in_ok-push-in-Item : goal.returns-in_ok-push-in-Item
returns-in_ok-push-in-Item c = record {
  keeps =
      let env = c.args.env.now in
      let s = c.args.state.now in
      let stack = c.args.stack.now.items in
      let v = value_of c.args.v in
      let f = frame.Item c.in-Item.values c.in-Item.rest in
      let new = c.elements.new.stack.items in
      let s1 = c.elements.new.state in
      let vs = c.push-in-Item.new.self.items in
      let q = one_more c.in-Item.values.items vs c.args.v c.in_ok-push-in-Item.ensures.items in
      in_frame env stack new s s1 c.elements.result c.args.frame f (λ _. gives (value v)) c.in-Item.is
      (pops_in env stack new s s1 c.elements.result f (λ _. gives (value v)) (λ st m. elements_do st (values_of vs) (exprs_at m.trees c.in-Item.rest) m) tt
      (λ st m. ap (λ (zs : List Value). elements_do st zs (exprs_at m.trees c.in-Item.rest) m) (sym q))
      (steps_in env stack new s s1 c.elements.result (λ st m. elements_do st (values_of vs) (exprs_at m.trees c.in-Item.rest) m) c.elements.ensures.keeps));
}

pub returns-in-Rest : goal.returns-in-Rest
returns-in-Rest c = record { keeps = given_on c.args.env.now c.args.stack.now.items c.args.state.now c.args.frame (frame.Rest c.in-Rest.field-0) c.args.v c.in-Rest.is tt (λ st m. refl) }

pub returns-in-Turn : goal.returns-in-Turn
returns-in-Turn c = record { keeps = given_on c.args.env.now c.args.stack.now.items c.args.state.now c.args.frame (frame.Turn c.in-Turn.field-0) c.args.v c.in-Turn.is tt (λ st m. refl) }

pub returns-in-Through : goal.returns-in-Through
returns-in-Through c = record { keeps = given_on c.args.env.now c.args.stack.now.items c.args.state.now c.args.frame (frame.Through c.in-Through.field-0) c.args.v c.in-Through.is tt (λ st m. refl) }

pub returns-in-Switch : goal.returns-in-Switch
returns-in-Switch c = record { keeps = given_on c.args.env.now c.args.stack.now.items c.args.state.now c.args.frame (frame.Switch c.in-Switch.field-0) c.args.v c.in-Switch.is tt (λ st m. refl) }

pub returns-in-Catch : goal.returns-in-Catch
returns-in-Catch c = record { keeps = given_on c.args.env.now c.args.stack.now.items c.args.state.now c.args.frame (frame.Catch c.in-Catch.field-0) c.args.v c.in-Catch.is tt (λ st m. refl) }

pub returns-in-Caught : goal.returns-in-Caught
returns-in-Caught c = record {
  keeps =
      let env = c.args.env.now in
      let s = c.args.state.now in
      let stack = c.args.stack.now.items in
      let v = value_of c.args.v in
      let f = frame.Caught c.in-Caught.before in
      let s1 = with_caught s c.in-Caught.before in
      let r = Ok (Give c.args.v) in
      in_frame env stack stack s s1 r c.args.frame f (λ _. gives (value v)) c.in-Caught.is
      (steps_in env (stack ++ f ∷ []) stack s s1 r (λ _. gives (value v))
      (pops_caught stack stack s s1 r c.in-Caught.before (λ _. gives (value v)) (λ _. gives (value v)) (λ st m. refl) (task_here stack s1 (Give c.args.v) (λ _. gives (value v)) (λ st m. refl))));
}

pub returns-in_ok-leave-in-Leave : goal.returns-in_ok-leave-in-Leave
returns-in_ok-leave-in-Leave c = record {
  keeps =
      let env = c.args.env.now in
      let s = c.args.state.now in
      let stack = c.args.stack.now.items in
      let v = value_of c.args.v in
      let f = frame.Leave c.in-Leave.at c.in-Leave.usage c.in-Leave.caller in
      let s1 = c.leave.new.state in
      let r = c.called.result in
      in_frame env stack stack s s1 r c.args.frame f (λ _. gives (value v)) c.in-Leave.is
      (steps_in env (stack ++ f ∷ []) stack s s1 r (λ _. gives (value v))
      (pops_leave stack stack s s1 s1 r c.in-Leave.at c.in-Leave.usage c.in-Leave.caller (λ _. gives (value v)) (λ _ m. called_here c.in-Leave.at c.in-Leave.usage m (gives None m.world)) c.in_ok-leave-in-Leave.ensures.value (λ st ls m. refl) (c.called.ensures.keeps stack s1)));
}
