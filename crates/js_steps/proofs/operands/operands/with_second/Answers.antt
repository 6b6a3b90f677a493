use Rattle.std.proofs.Common.{refl, ap, ◌∙◌, List, Some}
use Rattle.std.specs.Prelude.{Ok}
use Rattle.js_tree.specs.Value.{Object}
use Rattle.js_tree.specs.Operation.{binary_value, element, char_code, pushed, removed}
use Rattle.js_code.specs.Held.{part_of}
use Rattle.js_code.specs.Parts.{tree_of}
use Rattle.js_code.specs.declared.code.part.Part.TheVariants as held
use Rattle.js_value.specs.HeapSeen.{value_of, objects_of}
use Rattle.js_value.specs.declared.heap.heap.Object as heap
use Rattle.js_steps.specs.declared.frames.frame.Task.TheVariants.{Give}
use Rattle.js_steps.specs.declared.frames.state.State.{State}
use Rattle.js_steps.specs.PartWaits.{second_does, third_does}
use Rattle.js_steps.specs.Stands.{OnlyObjects}
use Rattle.js_steps.specs.PartLaws.{done_step}
use Rattle.js_steps.proofs.Rests.{second_rest}
use Rattle.js_steps.specs.WayLaws.{part_second, part_then, given_as, given_step, given_stop, gives_value}
use Rattle.js_steps.proofs.operands.operands.with_second.Goals as goal

pub returns-in_ok-value-in-Binary : goal.returns-in_ok-value-in-Binary
returns-in_ok-value-in-Binary c = record {
  keeps =
      let s = c.args.state.now in
      let stack = c.args.stack.now.items in
      let u = value_of c.args.u in
      let v = value_of c.args.v in
      part_second stack stack s s (Ok (Give c.in_ok-value-in-Binary.value)) c.args.i c.args.part (held.Binary c.in-Binary.at c.in-Binary.op c.in-Binary.left c.in-Binary.right) u v c.requires.held c.in-Binary.is
      (given_step stack s c.in-Binary.at (λ (os : List Object). binary_value os c.in-Binary.op u v) _ c.in_ok-value-in-Binary.value (ap objects_of c.as_slice.ensures.value) c.in_ok-value-in-Binary.ensures.value);
}

pub returns-in_err-value-in-Binary : goal.returns-in_err-value-in-Binary
returns-in_err-value-in-Binary c = record {
  keeps =
      let s = c.args.state.now in
      let stack = c.args.stack.now.items in
      let u = value_of c.args.u in
      let v = value_of c.args.v in
      part_second stack stack s s c.from_residual.result c.args.i c.args.part (held.Binary c.in-Binary.at c.in-Binary.op c.in-Binary.left c.in-Binary.right) u v c.requires.held c.in-Binary.is
      (given_stop stack s c.from_residual.result c.in-Binary.at (λ (os : List Object). binary_value os c.in-Binary.op u v) _ _ (ap objects_of c.as_slice.ensures.value) c.from_residual.ensures.1 c.in_err-value-in-Binary.ensures.value);
}

pub returns-in-Index : goal.returns-in-Index
returns-in-Index c = record {
  keeps =
      let s = c.args.state.now in
      let stack = c.args.stack.now.items in
      let u = value_of c.args.u in
      let v = value_of c.args.v in
      part_second stack stack s s c.given.result c.args.i c.args.part (held.Index c.in-Index.at c.in-Index.e c.in-Index.i) u v c.requires.held c.in-Index.is
      (given_as stack stack s s c.given.result c.in-Index.at c.element.result (λ (os : List Object). element os u v)
      (c.element.ensures.value ∙ ap (λ (os : List heap.Object). element (objects_of os) u v) c.as_slice-in-Index.ensures.value) (c.given.ensures.keeps stack s));
}

pub returns-in-CharCodeAt : goal.returns-in-CharCodeAt
returns-in-CharCodeAt c = record {
  keeps =
      let s = c.args.state.now in
      let stack = c.args.stack.now.items in
      let u = value_of c.args.u in
      let v = value_of c.args.v in
      part_second stack stack s s c.given-in-CharCodeAt.result c.args.i c.args.part (held.CharCodeAt c.in-CharCodeAt.at c.in-CharCodeAt.e c.in-CharCodeAt.i) u v c.requires.held c.in-CharCodeAt.is
      (given_as stack stack s s c.given-in-CharCodeAt.result c.in-CharCodeAt.at c.char_code.result (λ _. char_code u v) c.char_code.ensures.value (c.given-in-CharCodeAt.ensures.keeps stack s));
}

pub returns-in-Substring : goal.returns-in-Substring
returns-in-Substring c = record {
  keeps =
      let s = c.args.state.now in
      let stack = c.args.stack.now.items in
      let new = c.third.new.stack.items in
      let s1 = c.third.new.state in
      let u = value_of c.args.u in
      let v = value_of c.args.v in
      let w = held.Substring c.in-Substring.at c.in-Substring.e c.in-Substring.from c.in-Substring.to in
      part_second stack new s s1 c.third.result c.args.i c.args.part w u v c.requires.held c.in-Substring.is
      (part_then stack new s s1 c.third.result c.args.i c.in-Substring.to c.args.part w (λ st t x n. third_does t u v x n) c.requires.held c.in-Substring.is c.third.ensures.keeps);
}

pub returns-in-Store : goal.returns-in-Store
returns-in-Store c = record {
  keeps =
      let s = c.args.state.now in
      let stack = c.args.stack.now.items in
      let new = c.third-in-Store.new.stack.items in
      let s1 = c.third-in-Store.new.state in
      let u = value_of c.args.u in
      let v = value_of c.args.v in
      let w = held.Store c.in-Store.at c.in-Store.e c.in-Store.i c.in-Store.value in
      part_second stack new s s1 c.third-in-Store.result c.args.i c.args.part w u v c.requires.held c.in-Store.is
      (part_then stack new s s1 c.third-in-Store.result c.args.i c.in-Store.value c.args.part w (λ st t x n. third_does t u v x n) c.requires.held c.in-Store.is c.third-in-Store.ensures.keeps);
}

pub returns-in_ok-pushed-in-Push : goal.returns-in_ok-pushed-in-Push
returns-in_ok-pushed-in-Push c = record {
  keeps =
      let s = c.args.state.now in
      let s1 : State = record s { objects = c.push.new.objects } in
      let only : OnlyObjects s s1 = record { left = refl; globals = refl; body = refl; locals = refl; caught = refl } in
      let stack = c.args.stack.now.items in
      let u = value_of c.args.u in
      let v = value_of c.args.v in
      part_second stack stack s s1 c.done.result c.args.i c.args.part (held.Push c.in-Push.at c.in-Push.e c.in-Push.value) u v c.requires.held c.in-Push.is
      (done_step stack s s1 c.in-Push.at c.in_ok-pushed-in-Push.pushed c.done.result (λ (os : List Object). pushed os u v) only c.in_ok-pushed-in-Push.ensures.value c.in_ok-pushed-in-Push.ensures.same c.done.ensures.value);
}

pub returns-in-Delete : goal.returns-in-Delete
returns-in-Delete c = record {
  keeps =
      let s = c.args.state.now in
      let s1 : State = record s { objects = c.remove.new.objects } in
      let only : OnlyObjects s s1 = record { left = refl; globals = refl; body = refl; locals = refl; caught = refl } in
      let stack = c.args.stack.now.items in
      let u = value_of c.args.u in
      let v = value_of c.args.v in
      part_second stack stack s s1 c.done-in-Delete.result c.args.i c.args.part (held.Delete c.in-Delete.at c.in-Delete.e c.in-Delete.key) u v c.requires.held c.in-Delete.is
      (done_step stack s s1 c.in-Delete.at c.remove.result c.done-in-Delete.result (λ (os : List Object). removed os u v) only c.remove.ensures.value c.remove.ensures.same c.done-in-Delete.ensures.value);
}

pub returns-in_default : goal.returns-in_default
returns-in_default c = record {
  keeps =
      let s = c.args.state.now in
      let stack = c.args.stack.now.items in
      let u = value_of c.args.u in
      let v = value_of c.args.v in
      part_second stack stack s s (Ok (Give c.args.v)) c.args.i c.args.part c.args.part u v c.requires.held refl
      (gives_value stack s c.args.v (λ st m. second_does st (Some (tree_of m.trees (part_of c.args.part))) u v m)
      (λ st m _. second_rest c.args.part c.in_default.not-Binary c.in_default.not-Index c.in_default.not-CharCodeAt c.in_default.not-Substring c.in_default.not-Store c.in_default.not-Push c.in_default.not-Delete st m.trees u v m));
}
