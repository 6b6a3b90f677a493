use Rattle.std.proofs.Common.{refl}
use Rattle.std.specs.Prelude.{Ok}
use Rattle.js_tree.specs.Value.{throws}
use Rattle.js_value.specs.HeapSeen.{value_of}
use Rattle.js_steps.specs.declared.frames.frame.Frame.TheVariants as frame
use Rattle.js_steps.specs.declared.frames.frame.Task.TheVariants.{Throw}
use Rattle.js_steps.specs.Stack.{handled}
use Rattle.js_steps.specs.PopLaws.{with_caught, pops, pops_caught, pops_leave}
use Rattle.js_steps.proofs.Caught.{thrown_on, thrown_here, with_frame}
use Rattle.js_steps.proofs.flow.back.unwind.Goals as goal

pub returns-in-First : goal.returns-in-First
returns-in-First c = record { keeps = thrown_on c.args.stack.now.items c.args.state.now c.args.frame (frame.First c.in-First.field-0) c.args.at c.args.v c.in-First.is tt (λ st m. refl) }

pub returns-in-Second : goal.returns-in-Second
returns-in-Second c = record { keeps = thrown_on c.args.stack.now.items c.args.state.now c.args.frame (frame.Second c.in-Second.field-0 c.in-Second.field-1) c.args.at c.args.v c.in-Second.is tt (λ st m. refl) }

pub returns-in-Third : goal.returns-in-Third
returns-in-Third c = record { keeps = thrown_on c.args.stack.now.items c.args.state.now c.args.frame (frame.Third c.in-Third.field-0 c.in-Third.field-1 c.in-Third.field-2) c.args.at c.args.v c.in-Third.is tt (λ st m. refl) }

pub returns-in-Callee : goal.returns-in-Callee
returns-in-Callee c = record { keeps = thrown_on c.args.stack.now.items c.args.state.now c.args.frame (frame.Callee c.in-Callee.field-0 c.in-Callee.field-1) c.args.at c.args.v c.in-Callee.is tt (λ st m. refl) }

pub returns-in-Argument : goal.returns-in-Argument
returns-in-Argument c = record { keeps = thrown_on c.args.stack.now.items c.args.state.now c.args.frame (frame.Argument c.in-Argument.field-0 c.in-Argument.field-1 c.in-Argument.field-2 c.in-Argument.field-3 c.in-Argument.field-4) c.args.at c.args.v c.in-Argument.is tt (λ st m. refl) }

pub returns-in-Item : goal.returns-in-Item
returns-in-Item c = record { keeps = thrown_on c.args.stack.now.items c.args.state.now c.args.frame (frame.Item c.in-Item.field-0 c.in-Item.field-1) c.args.at c.args.v c.in-Item.is tt (λ st m. refl) }

pub returns-in-Rest : goal.returns-in-Rest
returns-in-Rest c = record { keeps = thrown_on c.args.stack.now.items c.args.state.now c.args.frame (frame.Rest c.in-Rest.field-0) c.args.at c.args.v c.in-Rest.is tt (λ st m. refl) }

pub returns-in-Turn : goal.returns-in-Turn
returns-in-Turn c = record { keeps = thrown_on c.args.stack.now.items c.args.state.now c.args.frame (frame.Turn c.in-Turn.field-0) c.args.at c.args.v c.in-Turn.is tt (λ st m. refl) }

pub returns-in-Through : goal.returns-in-Through
returns-in-Through c = record { keeps = thrown_on c.args.stack.now.items c.args.state.now c.args.frame (frame.Through c.in-Through.field-0) c.args.at c.args.v c.in-Through.is tt (λ st m. refl) }

pub returns-in-Switch : goal.returns-in-Switch
returns-in-Switch c = record { keeps = thrown_on c.args.stack.now.items c.args.state.now c.args.frame (frame.Switch c.in-Switch.field-0) c.args.at c.args.v c.in-Switch.is tt (λ st m. refl) }

pub returns-in-Catch : goal.returns-in-Catch
returns-in-Catch c = record {
  keeps =
      let s = c.args.state.now in
      let stack = c.args.stack.now.items in
      let new = c.handle.new.stack.items in
      let s1 = c.handle.new.state in
      let v = value_of c.args.v in
      with_frame stack new s s1 c.handle.result c.args.frame (frame.Catch c.in-Catch.handler) (λ _. throws c.args.at v) c.in-Catch.is
      (pops stack new s s1 c.handle.result (frame.Catch c.in-Catch.handler) (λ _. throws c.args.at v) (λ st m. handled st c.in-Catch.handler v m) tt (λ script choices fuel b vs _. refl) c.handle.ensures.keeps);
}

pub returns-in-Caught : goal.returns-in-Caught
returns-in-Caught c = record {
  keeps =
      let s = c.args.state.now in
      let stack = c.args.stack.now.items in
      let before = c.in-Caught.before in
      let s1 = with_caught s before in
      let v = value_of c.args.v in
      let r = Ok (Throw c.args.at c.args.v) in
      with_frame stack stack s s1 r c.args.frame (frame.Caught before) (λ _. throws c.args.at v) c.in-Caught.is
      (pops_caught stack stack s s1 r before (λ _. throws c.args.at v) (λ _. throws c.args.at v) (λ st m. refl) (thrown_here stack s1 c.args.at c.args.v));
}

pub returns : goal.returns
returns c = record {
  keeps =
      let s = c.args.state.now in
      let stack = c.args.stack.now.items in
      let k = c.in-Leave.caller in
      let s1 = c.leave.new.state in
      let v = value_of c.args.v in
      let r = Ok (Throw c.args.at c.args.v) in
      with_frame stack stack s s1 r c.args.frame (frame.Leave c.in-Leave.field-0 c.in-Leave.field-1 k) (λ _. throws c.args.at v) c.in-Leave.is
      (pops_leave stack stack s s1 s1 r c.in-Leave.field-0 c.in-Leave.field-1 k (λ _. throws c.args.at v) (λ _. throws c.args.at v) c.in_ok-leave-in-Leave.ensures.value (λ st ls m. refl) (thrown_here stack s1 c.args.at c.args.v));
}
