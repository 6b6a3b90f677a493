use Rattle.std.proofs.Common.{refl, ap, sym, subst, ◌∙◌, Some}
use Rattle.std.specs.Prelude.{Result, Ok}
use Rattle.js_tree.specs.Value.{gives}
use Rattle.js_tree.specs.Evaluate.{onward, set_name}
use Rattle.js_code.specs.Held.{part_of}
use Rattle.js_code.specs.Parts.{tree_of, as_stmt, stmts_at, else_at}
use Rattle.js_code.specs.declared.code.part.Part.TheVariants as held
use Rattle.js_value.specs.HeapSeen.{value_of}
use Rattle.js_steps.specs.declared.frames.frame.Flow.TheVariants.{Onward, Returns}
use Rattle.js_steps.specs.declared.frames.frame.Halt.{Halt}
use Rattle.js_steps.specs.declared.frames.frame.Task.{Task}
use Rattle.js_steps.specs.declared.frames.frame.Task.TheVariants.{Give, Follow, Throw, Statements, Else}
use Rattle.js_steps.specs.declared.frames.state.State.{State}
use Rattle.js_steps.specs.Moment.{flow, frame_in, flowing, stmts_do, else_does, chosen}
use Rattle.js_steps.specs.PartWaits.{first_does, second_does, turn_does}
use Rattle.js_steps.specs.Stack.{loop_label, task_does}
use Rattle.js_steps.specs.Stands.{Steps}
use Rattle.js_steps.proofs.Rests.{first_rest}
use Rattle.js_steps.specs.SetLaws.{local_rest, global_rest, declares, declares_nowhere, assigns_local, assigns_global, assigns_nowhere}
use Rattle.js_steps.proofs.Switches.{switch_step}
use Rattle.js_steps.specs.WayLaws.{some_part, part_first, part_then, second_here, part_back, chosen_ways, goes_step, gives_value}
use Rattle.js_steps.proofs.operands.operands.statement_with_first.Goals as goal

pub returns-in-Declare : goal.returns-in-Declare
returns-in-Declare c = record {
  keeps = λ _.
      let s = c.args.state.now in
      let s1 = c.set_local.new.state in
      let stack = c.args.stack.now.items in
      let w = held.Declare c.in-Declare.at c.in-Declare.slot c.in-Declare.e c.in-Declare.x in
      part_first stack stack s s1 (Ok (Follow Onward)) c.args.i c.args.part w (value_of c.args.v) c.requires.held c.in-Declare.is
      (declares stack s s1 c.args.i c.in-Declare.at c.in-Declare.slot c.in-Declare.e c.in-Declare.x.now c.args.v (c.requires.held ∙ ap some_part c.in-Declare.is) (local_rest s s1 c.set_local.ensures.same)
      (ap (λ (x : State). x.globals) c.set_local.ensures.same) c.set_local.ensures.value);
}

pub returns-in-DeclareNowhere : goal.returns-in-DeclareNowhere
returns-in-DeclareNowhere c = record {
  keeps = λ _.
      let s = c.args.state.now in
      let stack = c.args.stack.now.items in
      let w = held.DeclareNowhere c.in-DeclareNowhere.at c.in-DeclareNowhere.e c.in-DeclareNowhere.x in
      part_first stack stack s s (Ok (Follow Onward)) c.args.i c.args.part w (value_of c.args.v) c.requires.held c.in-DeclareNowhere.is
      (declares_nowhere stack s c.args.i c.in-DeclareNowhere.at c.in-DeclareNowhere.e c.in-DeclareNowhere.x.now c.args.v (c.requires.held ∙ ap some_part c.in-DeclareNowhere.is));
}

pub returns-in-AssignLocal : goal.returns-in-AssignLocal
returns-in-AssignLocal c = record {
  keeps = λ _.
      let s = c.args.state.now in
      let s1 = c.set_local-in-AssignLocal.new.state in
      let stack = c.args.stack.now.items in
      let w = held.AssignLocal c.in-AssignLocal.at c.in-AssignLocal.slot c.in-AssignLocal.e c.in-AssignLocal.x in
      part_first stack stack s s1 (Ok (Follow Onward)) c.args.i c.args.part w (value_of c.args.v) c.requires.held c.in-AssignLocal.is
      (assigns_local stack s s1 c.args.i c.in-AssignLocal.at c.in-AssignLocal.slot c.in-AssignLocal.e c.in-AssignLocal.x.now c.args.v (c.requires.held ∙ ap some_part c.in-AssignLocal.is) (local_rest s s1 c.set_local-in-AssignLocal.ensures.same)
      (ap (λ (x : State). x.globals) c.set_local-in-AssignLocal.ensures.same) c.set_local-in-AssignLocal.ensures.value);
}

pub returns-in-AssignGlobal : goal.returns-in-AssignGlobal
returns-in-AssignGlobal c = record {
  keeps = λ _.
      let s = c.args.state.now in
      let s1 = c.set_global.new.state in
      let stack = c.args.stack.now.items in
      let w = held.AssignGlobal c.in-AssignGlobal.at c.in-AssignGlobal.slot c.in-AssignGlobal.e c.in-AssignGlobal.x in
      part_first stack stack s s1 (Ok (Follow Onward)) c.args.i c.args.part w (value_of c.args.v) c.requires.held c.in-AssignGlobal.is
      (assigns_global stack s s1 c.args.i c.in-AssignGlobal.at c.in-AssignGlobal.slot c.in-AssignGlobal.e c.in-AssignGlobal.x.now c.args.v (c.requires.held ∙ ap some_part c.in-AssignGlobal.is) (global_rest s s1 c.set_global.ensures.same)
      (ap (λ (x : State). x.locals) c.set_global.ensures.same) c.set_global.ensures.value);
}

pub returns-in-AssignNowhere : goal.returns-in-AssignNowhere
returns-in-AssignNowhere c = record {
  keeps = λ _.
      let s = c.args.state.now in
      let stack = c.args.stack.now.items in
      let v = value_of c.args.v in
      let x = c.in-AssignNowhere.x.now in
      let at = c.in-AssignNowhere.at in
      let w = held.AssignNowhere at c.in-AssignNowhere.e c.in-AssignNowhere.x in
      part_first stack stack s s c.done.result c.args.i c.args.part w v c.requires.held c.in-AssignNowhere.is
      (subst (λ (r : Result Task Halt). Steps stack s stack s r (λ st m. flowing m (set_name st m.scope at x v (frame_in m)))) (sym c.done.ensures.value)
      (assigns_nowhere stack s c.args.i at c.in-AssignNowhere.e x v (c.requires.held ∙ ap some_part c.in-AssignNowhere.is)));
}

pub returns-in-Store : goal.returns-in-Store
returns-in-Store c = record {
  keeps = λ _.
      let s = c.args.state.now in
      let stack = c.args.stack.now.items in
      let v = value_of c.args.v in
      part_first stack c.second.new.stack.items s c.second.new.state c.second.result c.args.i c.args.part (held.Store c.in-Store.at c.in-Store.e c.in-Store.key c.in-Store.value) v c.requires.held c.in-Store.is
      (second_here stack c.second.new.stack.items s c.second.new.state c.second.result c.in-Store.key (held.Store c.in-Store.at c.in-Store.e c.in-Store.key c.in-Store.value) v
      (part_then stack c.second.new.stack.items s c.second.new.state c.second.result c.args.i c.in-Store.key c.args.part (held.Store c.in-Store.at c.in-Store.e c.in-Store.key c.in-Store.value) (λ st t x n. second_does st t v x n) c.requires.held c.in-Store.is c.second.ensures.keeps));
}

pub returns-in-Perform : goal.returns-in-Perform
returns-in-Perform c = record {
  keeps = λ _.
      let s = c.args.state.now in
      let stack = c.args.stack.now.items in
      let v = value_of c.args.v in
      part_first stack stack s s (Ok (Follow Onward)) c.args.i c.args.part (held.Perform c.in-Perform.at c.in-Perform.e) v c.requires.held c.in-Perform.is
      (goes_step stack s (Follow Onward) (λ st m. first_does st (Some (tree_of m.trees (part_of (held.Perform c.in-Perform.at c.in-Perform.e)))) v m) (λ st m. refl));
}

pub returns-in-Push : goal.returns-in-Push
returns-in-Push c = record {
  keeps = λ _.
      let s = c.args.state.now in
      let stack = c.args.stack.now.items in
      let v = value_of c.args.v in
      part_first stack c.second-in-Push.new.stack.items s c.second-in-Push.new.state c.second-in-Push.result c.args.i c.args.part (held.Push c.in-Push.at c.in-Push.e c.in-Push.value) v c.requires.held c.in-Push.is
      (part_then stack c.second-in-Push.new.stack.items s c.second-in-Push.new.state c.second-in-Push.result c.args.i c.in-Push.value c.args.part (held.Push c.in-Push.at c.in-Push.e c.in-Push.value) (λ st t x n. second_does st t v x n) c.requires.held c.in-Push.is c.second-in-Push.ensures.keeps);
}

pub returns-in-Delete : goal.returns-in-Delete
returns-in-Delete c = record {
  keeps = λ _.
      let s = c.args.state.now in
      let stack = c.args.stack.now.items in
      let v = value_of c.args.v in
      part_first stack c.second-in-Delete.new.stack.items s c.second-in-Delete.new.state c.second-in-Delete.result c.args.i c.args.part (held.Delete c.in-Delete.at c.in-Delete.e c.in-Delete.key) v c.requires.held c.in-Delete.is
      (part_then stack c.second-in-Delete.new.stack.items s c.second-in-Delete.new.state c.second-in-Delete.result c.args.i c.in-Delete.key c.args.part (held.Delete c.in-Delete.at c.in-Delete.e c.in-Delete.key) (λ st t x n. second_does st t v x n) c.requires.held c.in-Delete.is c.second-in-Delete.ensures.keeps);
}

pub returns-in-If : goal.returns-in-If
returns-in-If c = record {
  keeps = λ _.
      let s = c.args.state.now in
      let stack = c.args.stack.now.items in
      let v = value_of c.args.v in
      part_first stack stack s s c.chosen.result c.args.i c.args.part (held.If c.in-If.at c.in-If.test c.in-If.body c.in-If.other) v c.requires.held c.in-If.is
      (chosen_ways stack stack s s c.chosen.result c.in-If.at v (λ st. task_does st (Statements c.in-If.body)) (λ st. task_does st (Else c.in-If.other)) (λ st m. stmts_do st (stmts_at m.trees c.in-If.body)) (λ st m. else_does st (else_at m.trees c.in-If.other)) (λ st m. refl) (λ st m. refl) (c.chosen.ensures.keeps stack s));
}

pub returns-in-ElseIf : goal.returns-in-ElseIf
returns-in-ElseIf c = record {
  keeps = λ _.
      let s = c.args.state.now in
      let stack = c.args.stack.now.items in
      let v = value_of c.args.v in
      part_first stack stack s s c.chosen-in-ElseIf.result c.args.i c.args.part (held.ElseIf c.in-ElseIf.at c.in-ElseIf.test c.in-ElseIf.body c.in-ElseIf.other) v c.requires.held c.in-ElseIf.is
      (chosen_ways stack stack s s c.chosen-in-ElseIf.result c.in-ElseIf.at v (λ st. task_does st (Statements c.in-ElseIf.body)) (λ st. task_does st (Else c.in-ElseIf.other)) (λ st m. stmts_do st (stmts_at m.trees c.in-ElseIf.body)) (λ st m. else_does st (else_at m.trees c.in-ElseIf.other)) (λ st m. refl) (λ st m. refl) (c.chosen-in-ElseIf.ensures.keeps stack s));
}

pub returns-in-While : goal.returns-in-While
returns-in-While c = record {
  keeps = λ _.
      let s = c.args.state.now in
      let stack = c.args.stack.now.items in
      let v = value_of c.args.v in
      part_first stack c.turn_if.new.stack.items s c.turn_if.new.state c.turn_if.result c.args.i c.args.part (held.While c.in-While.at c.in-While.test c.in-While.body c.in-While.label) v c.requires.held c.in-While.is
      (part_back stack c.turn_if.new.stack.items s c.turn_if.new.state c.turn_if.result c.args.i c.args.part (held.While c.in-While.at c.in-While.test c.in-While.body c.in-While.label) (λ st t m. chosen c.in-While.at v (turn_does st (as_stmt t) (loop_label (as_stmt t)) (stmts_at m.trees c.in-While.body)) (gives (flow onward)) m) c.requires.held c.in-While.is c.turn_if.ensures.keeps);
}

pub returns-in-Switch : goal.returns-in-Switch
returns-in-Switch c = record {
  keeps = λ _.
      let s = c.args.state.now in
      let stack = c.args.stack.now.items in
      let new = c.wait.new.stack.items in
      let v = value_of c.args.v in
      let x = c.in-Switch.x in
      let w = held.Switch c.in-Switch.at c.in-Switch.e c.in-Switch.cases x in
      part_first stack new s s c.wait.result c.args.i c.args.part w v c.requires.held c.in-Switch.is
      (switch_step stack new s c.wait.result c.label.result x.now c.in-Switch.cases c.case_of-place.result v c.label.ensures.value c.case_of-place.ensures.value (c.wait.ensures.keeps s));
}

pub returns-in-Return : goal.returns-in-Return
returns-in-Return c = record {
  keeps = λ _.
      let s = c.args.state.now in
      let stack = c.args.stack.now.items in
      let v = value_of c.args.v in
      part_first stack stack s s (Ok (Follow (Returns (Some c.args.v)))) c.args.i c.args.part (held.Return c.in-Return.at c.in-Return.e) v c.requires.held c.in-Return.is
      (goes_step stack s (Follow (Returns (Some c.args.v))) (λ st m. first_does st (Some (tree_of m.trees (part_of (held.Return c.in-Return.at c.in-Return.e)))) v m) (λ st m. refl));
}

pub returns-in-Throw : goal.returns-in-Throw
returns-in-Throw c = record {
  keeps = λ _.
      let s = c.args.state.now in
      let stack = c.args.stack.now.items in
      let v = value_of c.args.v in
      part_first stack stack s s (Ok (Throw c.in-Throw.at c.args.v)) c.args.i c.args.part (held.Throw c.in-Throw.at c.in-Throw.e) v c.requires.held c.in-Throw.is
      (goes_step stack s (Throw c.in-Throw.at c.args.v) (λ st m. first_does st (Some (tree_of m.trees (part_of (held.Throw c.in-Throw.at c.in-Throw.e)))) v m) (λ st m. refl));
}

pub returns-in_default : goal.returns-in_default
returns-in_default c = record {
  keeps = λ q.
      let s = c.args.state.now in
      let stack = c.args.stack.now.items in
      let v = value_of c.args.v in
      part_first stack stack s s (Ok (Give c.args.v)) c.args.i c.args.part c.args.part v c.requires.held refl
      (gives_value stack s c.args.v (λ st m. first_does st (Some (tree_of m.trees (part_of c.args.part))) v m)
      (λ st m _. first_rest c.args.part c.in_default.not-Declare c.in_default.not-DeclareNowhere c.in_default.not-AssignLocal c.in_default.not-AssignGlobal c.in_default.not-AssignNowhere c.in_default.not-Store c.in_default.not-Perform c.in_default.not-Push c.in_default.not-Delete c.in_default.not-If c.in_default.not-ElseIf c.in_default.not-While c.in_default.not-Switch c.in_default.not-Return c.in_default.not-Throw q st m.trees v m));
}
