use Rattle.std.proofs.Common.{refl, List, Some}
use Rattle.std.specs.Prelude.{Ok}
use Rattle.js_tree.specs.Value.{Object}
use Rattle.js_tree.specs.Operation.{part_of as text_part, stored}
use Rattle.js_code.specs.Held.{part_of}
use Rattle.js_code.specs.Parts.{tree_of}
use Rattle.js_code.specs.declared.code.part.Part.TheVariants as held
use Rattle.js_value.specs.HeapSeen.{value_of}
use Rattle.js_steps.specs.declared.frames.frame.Task.TheVariants.{Give}
use Rattle.js_steps.specs.declared.frames.state.State.{State}
use Rattle.js_steps.specs.PartWaits.{third_does}
use Rattle.js_steps.specs.Stands.{OnlyObjects}
use Rattle.js_steps.specs.PartLaws.{done_step}
use Rattle.js_steps.proofs.Rests.{third_rest}
use Rattle.js_steps.specs.WayLaws.{part_third, given_as, gives_value}
use Rattle.js_steps.proofs.operands.operands.with_third.Goals as goal

pub returns-in_ok-text-in-Substring : goal.returns-in_ok-text-in-Substring
returns-in_ok-text-in-Substring c = record {
  keeps = λ stack i is.
      let s = c.args.state.now in
      let u = value_of c.args.u in
      let v = value_of c.args.v in
      let x = value_of c.args.x in
      part_third stack stack s s c.given.result i c.args.part (held.Substring c.in-Substring.at c.in-Substring.e c.in-Substring.from c.in-Substring.to) u v x is c.in-Substring.is
      (given_as stack stack s s c.given.result c.in-Substring.at c.in_ok-text-in-Substring.text (λ _. text_part u v x) c.in_ok-text-in-Substring.ensures.value (c.given.ensures.keeps stack s));
}

pub returns-in_ok-stored-in-Store : goal.returns-in_ok-stored-in-Store
returns-in_ok-stored-in-Store c = record {
  keeps = λ stack i is.
      let s = c.args.state.now in
      let s1 : State = record s { objects = c.store.new.objects } in
      let only : OnlyObjects s s1 = record { left = refl; globals = refl; body = refl; locals = refl; caught = refl } in
      let u = value_of c.args.u in
      let v = value_of c.args.v in
      let x = value_of c.args.x in
      part_third stack stack s s1 c.done.result i c.args.part (held.Store c.in-Store.at c.in-Store.e c.in-Store.i c.in-Store.value) u v x is c.in-Store.is
      (done_step stack s s1 c.in-Store.at c.in_ok-stored-in-Store.stored c.done.result (λ (os : List Object). stored os u v x) only c.in_ok-stored-in-Store.ensures.value c.in_ok-stored-in-Store.ensures.same c.done.ensures.value);
}

pub returns-in_default : goal.returns-in_default
returns-in_default c = record {
  keeps = λ stack i is.
      let s = c.args.state.now in
      let u = value_of c.args.u in
      let v = value_of c.args.v in
      let x = value_of c.args.x in
      part_third stack stack s s (Ok (Give c.args.x)) i c.args.part c.args.part u v x is refl
      (gives_value stack s c.args.x (λ st m. third_does (Some (tree_of m.trees (part_of c.args.part))) u v x m)
      (λ st m _. third_rest c.args.part c.in_default.not-Substring c.in_default.not-Store m.trees u v x m));
}
