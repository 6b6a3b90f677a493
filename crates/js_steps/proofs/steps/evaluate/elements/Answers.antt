use Rattle.std.proofs.Common.{refl}
use Rattle.js_steps.specs.declared.frames.state.State.{State}
use Rattle.js_steps.specs.Stands.{OnlyObjects}
use Rattle.js_steps.proofs.Elements.{element_goes, elements_made}
use Rattle.js_steps.proofs.steps.evaluate.elements.Goals as goal

pub returns-in-Some : goal.returns-in-Some
returns-in-Some c = record {
  keeps = element_goes c.args.stack.now.items c.wait.new.stack.items c.args.state.now c.wait.result c.args.values.items c.args.list c.in-Some.cell c.in-Some.ensures.value (c.wait.ensures.keeps c.args.state.now);
}

pub returns-in_ok-array-in-None : goal.returns-in_ok-array-in-None
returns-in_ok-array-in-None c = record {
  keeps =
      let s = c.args.state.now in
      let s1 : State = record s { objects = c.allocate.new.objects } in
      let only : OnlyObjects s s1 = record { left = refl; globals = refl; body = refl; locals = refl; caught = refl } in
      elements_made c.args.stack.now.items s s1 c.args.values.items c.args.list c.in_ok-array-in-None.array only c.in-None.ensures.value c.in_ok-array-in-None.ensures.made c.in_ok-array-in-None.ensures.kept;
}
