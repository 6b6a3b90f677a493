use Rattle.std.proofs.Common.{refl, ap, sym, ◌∙◌, Option, Some, None}
use Rattle.std.specs.Prelude.{Ok}
use Rattle.js_tree.specs.Script.{Name}
use Rattle.js_tree.specs.Value.{gives}
use Rattle.js_tree.specs.Evaluate.{setting, breaks, continues}
use Rattle.js_code.specs.Held.{part_of}
use Rattle.js_code.specs.Parts.{as_stmt, expr_at, stmt_at, stmts_at, else_at, cases_at, tree_of, trees_of}
use Rattle.js_code.specs.declared.code.part.Part.TheVariants as held
use Rattle.js_steps.specs.declared.frames.frame.Flow.TheVariants.{Breaks, Continues, Returns}
use Rattle.js_steps.specs.declared.frames.frame.Task.TheVariants.{Follow}
use Rattle.js_steps.specs.Moment.{flow, stmt_does, stmts_do, with_throw}
use Rattle.js_steps.specs.Stack.{handled}
use Rattle.js_steps.specs.Stands.{moment}
use Rattle.js_steps.specs.PartLaws.{steps_as}
use Rattle.js_steps.specs.WayLaws.{some_part, begins, goes_step, part_by}
use Rattle.js_steps.specs.FlowLaws.{attempt_is}
use Rattle.js_steps.specs.PopLaws.{steps_in}
use Rattle.js_steps.proofs.Begins.{declare_is, assign_is, store_is, push_is, remove_is, branch_is, while_is, switch_is, return_is, throw_is}
use Rattle.js_steps.proofs.Leaves.{no_statement}
use Rattle.js_steps.proofs.Loops.{forever_goes}
use Rattle.js_steps.proofs.steps.execute.begin.Goals as goal

pub returns-in-Declare : goal.returns-in-Declare
returns-in-Declare c = record {
  keeps =
      let s = c.args.state.now in
      let stack = c.args.stack.now.items in
      let ts = trees_of s.body.now.code in
      steps_in c.args.env.now stack c.first.new.stack.items s c.first.new.state c.first.result (λ st m. stmt_does st (stmt_at m.trees c.args.i) m)
      (begins stack c.first.new.stack.items s c.first.new.state c.first.result c.args.i c.in-Declare.e c.args.part (held.Declare c.in-Declare.at c.in-Declare.slot c.in-Declare.e c.in-Declare.x) (λ st t m. stmt_does st (as_stmt t) m) c.requires.held c.in-Declare.is
      (λ script choices fuel b vs h. declare_is (setting script choices fuel) (moment b vs s) c.in-Declare.at c.in-Declare.x.now (expr_at ts c.in-Declare.e)) c.first.ensures.keeps);
}

pub returns-in-DeclareNowhere : goal.returns-in-DeclareNowhere
returns-in-DeclareNowhere c = record {
  keeps =
      let s = c.args.state.now in
      let stack = c.args.stack.now.items in
      let ts = trees_of s.body.now.code in
      steps_in c.args.env.now stack c.first-in-DeclareNowhere.new.stack.items s c.first-in-DeclareNowhere.new.state c.first-in-DeclareNowhere.result (λ st m. stmt_does st (stmt_at m.trees c.args.i) m)
      (begins stack c.first-in-DeclareNowhere.new.stack.items s c.first-in-DeclareNowhere.new.state c.first-in-DeclareNowhere.result c.args.i c.in-DeclareNowhere.e c.args.part (held.DeclareNowhere c.in-DeclareNowhere.at c.in-DeclareNowhere.e c.in-DeclareNowhere.x) (λ st t m. stmt_does st (as_stmt t) m) c.requires.held c.in-DeclareNowhere.is
      (λ script choices fuel b vs h. declare_is (setting script choices fuel) (moment b vs s) c.in-DeclareNowhere.at c.in-DeclareNowhere.x.now (expr_at ts c.in-DeclareNowhere.e)) c.first-in-DeclareNowhere.ensures.keeps);
}

pub returns-in-AssignLocal : goal.returns-in-AssignLocal
returns-in-AssignLocal c = record {
  keeps =
      let s = c.args.state.now in
      let stack = c.args.stack.now.items in
      let ts = trees_of s.body.now.code in
      steps_in c.args.env.now stack c.first-in-AssignLocal.new.stack.items s c.first-in-AssignLocal.new.state c.first-in-AssignLocal.result (λ st m. stmt_does st (stmt_at m.trees c.args.i) m)
      (begins stack c.first-in-AssignLocal.new.stack.items s c.first-in-AssignLocal.new.state c.first-in-AssignLocal.result c.args.i c.in-AssignLocal.e c.args.part (held.AssignLocal c.in-AssignLocal.at c.in-AssignLocal.slot c.in-AssignLocal.e c.in-AssignLocal.x) (λ st t m. stmt_does st (as_stmt t) m) c.requires.held c.in-AssignLocal.is
      (λ script choices fuel b vs h. assign_is (setting script choices fuel) (moment b vs s) c.in-AssignLocal.at c.in-AssignLocal.x.now (expr_at ts c.in-AssignLocal.e)) c.first-in-AssignLocal.ensures.keeps);
}

pub returns-in-AssignGlobal : goal.returns-in-AssignGlobal
returns-in-AssignGlobal c = record {
  keeps =
      let s = c.args.state.now in
      let stack = c.args.stack.now.items in
      let ts = trees_of s.body.now.code in
      steps_in c.args.env.now stack c.first-in-AssignGlobal.new.stack.items s c.first-in-AssignGlobal.new.state c.first-in-AssignGlobal.result (λ st m. stmt_does st (stmt_at m.trees c.args.i) m)
      (begins stack c.first-in-AssignGlobal.new.stack.items s c.first-in-AssignGlobal.new.state c.first-in-AssignGlobal.result c.args.i c.in-AssignGlobal.e c.args.part (held.AssignGlobal c.in-AssignGlobal.at c.in-AssignGlobal.slot c.in-AssignGlobal.e c.in-AssignGlobal.x) (λ st t m. stmt_does st (as_stmt t) m) c.requires.held c.in-AssignGlobal.is
      (λ script choices fuel b vs h. assign_is (setting script choices fuel) (moment b vs s) c.in-AssignGlobal.at c.in-AssignGlobal.x.now (expr_at ts c.in-AssignGlobal.e)) c.first-in-AssignGlobal.ensures.keeps);
}

pub returns-in-AssignNowhere : goal.returns-in-AssignNowhere
returns-in-AssignNowhere c = record {
  keeps =
      let s = c.args.state.now in
      let stack = c.args.stack.now.items in
      let ts = trees_of s.body.now.code in
      steps_in c.args.env.now stack c.first-in-AssignNowhere.new.stack.items s c.first-in-AssignNowhere.new.state c.first-in-AssignNowhere.result (λ st m. stmt_does st (stmt_at m.trees c.args.i) m)
      (begins stack c.first-in-AssignNowhere.new.stack.items s c.first-in-AssignNowhere.new.state c.first-in-AssignNowhere.result c.args.i c.in-AssignNowhere.e c.args.part (held.AssignNowhere c.in-AssignNowhere.at c.in-AssignNowhere.e c.in-AssignNowhere.x) (λ st t m. stmt_does st (as_stmt t) m) c.requires.held c.in-AssignNowhere.is
      (λ script choices fuel b vs h. assign_is (setting script choices fuel) (moment b vs s) c.in-AssignNowhere.at c.in-AssignNowhere.x.now (expr_at ts c.in-AssignNowhere.e)) c.first-in-AssignNowhere.ensures.keeps);
}

pub returns-in-Store : goal.returns-in-Store
returns-in-Store c = record {
  keeps =
      let s = c.args.state.now in
      let stack = c.args.stack.now.items in
      let ts = trees_of s.body.now.code in
      steps_in c.args.env.now stack c.first-in-Store.new.stack.items s c.first-in-Store.new.state c.first-in-Store.result (λ st m. stmt_does st (stmt_at m.trees c.args.i) m)
      (begins stack c.first-in-Store.new.stack.items s c.first-in-Store.new.state c.first-in-Store.result c.args.i c.in-Store.e c.args.part (held.Store c.in-Store.at c.in-Store.e c.in-Store.i c.in-Store.value) (λ st t m. stmt_does st (as_stmt t) m) c.requires.held c.in-Store.is
      (λ script choices fuel b vs h. store_is (setting script choices fuel) (moment b vs s) c.in-Store.at (expr_at ts c.in-Store.e) (expr_at ts c.in-Store.i) (expr_at ts c.in-Store.value)) c.first-in-Store.ensures.keeps);
}

pub perform-requires : goal.perform-requires
perform-requires c = record { held = c.requires.held ∙ ap some_part c.in-Perform.is }

pub returns-in-Push : goal.returns-in-Push
returns-in-Push c = record {
  keeps =
      let s = c.args.state.now in
      let stack = c.args.stack.now.items in
      let ts = trees_of s.body.now.code in
      steps_in c.args.env.now stack c.first-in-Push.new.stack.items s c.first-in-Push.new.state c.first-in-Push.result (λ st m. stmt_does st (stmt_at m.trees c.args.i) m)
      (begins stack c.first-in-Push.new.stack.items s c.first-in-Push.new.state c.first-in-Push.result c.args.i c.in-Push.e c.args.part (held.Push c.in-Push.at c.in-Push.e c.in-Push.value) (λ st t m. stmt_does st (as_stmt t) m) c.requires.held c.in-Push.is
      (λ script choices fuel b vs h. push_is (setting script choices fuel) (moment b vs s) c.in-Push.at (expr_at ts c.in-Push.e) (expr_at ts c.in-Push.value)) c.first-in-Push.ensures.keeps);
}

pub returns-in-Delete : goal.returns-in-Delete
returns-in-Delete c = record {
  keeps =
      let s = c.args.state.now in
      let stack = c.args.stack.now.items in
      let ts = trees_of s.body.now.code in
      steps_in c.args.env.now stack c.first-in-Delete.new.stack.items s c.first-in-Delete.new.state c.first-in-Delete.result (λ st m. stmt_does st (stmt_at m.trees c.args.i) m)
      (begins stack c.first-in-Delete.new.stack.items s c.first-in-Delete.new.state c.first-in-Delete.result c.args.i c.in-Delete.e c.args.part (held.Delete c.in-Delete.at c.in-Delete.e c.in-Delete.key) (λ st t m. stmt_does st (as_stmt t) m) c.requires.held c.in-Delete.is
      (λ script choices fuel b vs h. remove_is (setting script choices fuel) (moment b vs s) c.in-Delete.at (expr_at ts c.in-Delete.e) (expr_at ts c.in-Delete.key)) c.first-in-Delete.ensures.keeps);
}

pub returns-in-If : goal.returns-in-If
returns-in-If c = record {
  keeps =
      let s = c.args.state.now in
      let stack = c.args.stack.now.items in
      let ts = trees_of s.body.now.code in
      steps_in c.args.env.now stack c.first-in-If.new.stack.items s c.first-in-If.new.state c.first-in-If.result (λ st m. stmt_does st (stmt_at m.trees c.args.i) m)
      (begins stack c.first-in-If.new.stack.items s c.first-in-If.new.state c.first-in-If.result c.args.i c.in-If.test c.args.part (held.If c.in-If.at c.in-If.test c.in-If.body c.in-If.other) (λ st t m. stmt_does st (as_stmt t) m) c.requires.held c.in-If.is
      (λ script choices fuel b vs h. branch_is (setting script choices fuel) (moment b vs s) c.in-If.at (expr_at ts c.in-If.test) (stmts_at ts c.in-If.body) (else_at ts c.in-If.other)) c.first-in-If.ensures.keeps);
}

pub returns-in-While : goal.returns-in-While
returns-in-While c = record {
  keeps =
      let s = c.args.state.now in
      let stack = c.args.stack.now.items in
      let ts = trees_of s.body.now.code in
      steps_in c.args.env.now stack c.first-in-While.new.stack.items s c.first-in-While.new.state c.first-in-While.result (λ st m. stmt_does st (stmt_at m.trees c.args.i) m)
      (begins stack c.first-in-While.new.stack.items s c.first-in-While.new.state c.first-in-While.result c.args.i c.in-While.test c.args.part (held.While c.in-While.at c.in-While.test c.in-While.body c.in-While.label) (λ st t m. stmt_does st (as_stmt t) m) c.requires.held c.in-While.is
      (λ script choices fuel b vs h. while_is script choices fuel (moment b vs s) c.in-While.at c.in-While.label.now (expr_at ts c.in-While.test) (stmts_at ts c.in-While.body) h.few) c.first-in-While.ensures.keeps);
}

pub returns-in-Forever : goal.returns-in-Forever
returns-in-Forever c = record {
  keeps =
      let s = c.args.state.now in
      let stack = c.args.stack.now.items in
      let ts = trees_of s.body.now.code in
      steps_in c.args.env.now stack c.turn.new.stack.items s c.turn.new.state c.turn.result (λ st m. stmt_does st (stmt_at m.trees c.args.i) m)
      (forever_goes stack c.turn.new.stack.items s c.turn.new.state c.turn.result c.args.i c.in-Forever.at c.in-Forever.body c.in-Forever.label.now (c.requires.held ∙ ap some_part c.in-Forever.is) c.turn.ensures.keeps);
}

pub returns-in-Switch : goal.returns-in-Switch
returns-in-Switch c = record {
  keeps =
      let s = c.args.state.now in
      let stack = c.args.stack.now.items in
      let ts = trees_of s.body.now.code in
      steps_in c.args.env.now stack c.first-in-Switch.new.stack.items s c.first-in-Switch.new.state c.first-in-Switch.result (λ st m. stmt_does st (stmt_at m.trees c.args.i) m)
      (begins stack c.first-in-Switch.new.stack.items s c.first-in-Switch.new.state c.first-in-Switch.result c.args.i c.in-Switch.e c.args.part (held.Switch c.in-Switch.at c.in-Switch.e c.in-Switch.cases c.in-Switch.label) (λ st t m. stmt_does st (as_stmt t) m) c.requires.held c.in-Switch.is
      (λ script choices fuel b vs h. switch_is (setting script choices fuel) (moment b vs s) c.in-Switch.at c.in-Switch.label.now (expr_at ts c.in-Switch.e) (cases_at ts c.in-Switch.cases)) c.first-in-Switch.ensures.keeps);
}

pub returns-in-ReturnNothing : goal.returns-in-ReturnNothing
returns-in-ReturnNothing c = record {
  keeps =
      let s = c.args.state.now in
      let stack = c.args.stack.now.items in
      let ts = trees_of s.body.now.code in
      steps_in c.args.env.now stack stack s s (Ok (Follow (Returns None))) (λ st m. stmt_does st (stmt_at m.trees c.args.i) m)
      (part_by stack stack s s (Ok (Follow (Returns None))) c.args.i c.args.part (held.ReturnNothing c.in-ReturnNothing.at) (λ st t m. stmt_does st (as_stmt t) m) c.requires.held c.in-ReturnNothing.is
      (goes_step stack s (Follow (Returns None)) (λ st m. stmt_does st (as_stmt (Some (tree_of m.trees (part_of (held.ReturnNothing c.in-ReturnNothing.at))))) m) (λ st m. refl)));
}

pub returns-in-Return : goal.returns-in-Return
returns-in-Return c = record {
  keeps =
      let s = c.args.state.now in
      let stack = c.args.stack.now.items in
      let ts = trees_of s.body.now.code in
      steps_in c.args.env.now stack c.first-in-Return.new.stack.items s c.first-in-Return.new.state c.first-in-Return.result (λ st m. stmt_does st (stmt_at m.trees c.args.i) m)
      (begins stack c.first-in-Return.new.stack.items s c.first-in-Return.new.state c.first-in-Return.result c.args.i c.in-Return.e c.args.part (held.Return c.in-Return.at c.in-Return.e) (λ st t m. stmt_does st (as_stmt t) m) c.requires.held c.in-Return.is
      (λ script choices fuel b vs h. return_is (setting script choices fuel) (moment b vs s) c.in-Return.at (expr_at ts c.in-Return.e)) c.first-in-Return.ensures.keeps);
}

pub returns-in-Throw : goal.returns-in-Throw
returns-in-Throw c = record {
  keeps =
      let s = c.args.state.now in
      let stack = c.args.stack.now.items in
      let ts = trees_of s.body.now.code in
      steps_in c.args.env.now stack c.first-in-Throw.new.stack.items s c.first-in-Throw.new.state c.first-in-Throw.result (λ st m. stmt_does st (stmt_at m.trees c.args.i) m)
      (begins stack c.first-in-Throw.new.stack.items s c.first-in-Throw.new.state c.first-in-Throw.result c.args.i c.in-Throw.e c.args.part (held.Throw c.in-Throw.at c.in-Throw.e) (λ st t m. stmt_does st (as_stmt t) m) c.requires.held c.in-Throw.is
      (λ script choices fuel b vs h. throw_is (setting script choices fuel) (moment b vs s) c.in-Throw.at (expr_at ts c.in-Throw.e)) c.first-in-Throw.ensures.keeps);
}

pub returns-in-Break : goal.returns-in-Break
returns-in-Break c = record {
  keeps =
      let s = c.args.state.now in
      let stack = c.args.stack.now.items in
      let ts = trees_of s.body.now.code in
      steps_in c.args.env.now stack stack s s (Ok (Follow (Breaks c.label.result))) (λ st m. stmt_does st (stmt_at m.trees c.args.i) m)
      (part_by stack stack s s (Ok (Follow (Breaks c.label.result))) c.args.i c.args.part (held.Break c.in-Break.at c.in-Break.x) (λ st t m. stmt_does st (as_stmt t) m) c.requires.held c.in-Break.is
      (goes_step stack s (Follow (Breaks c.label.result)) (λ st m. stmt_does st (as_stmt (Some (tree_of m.trees (part_of (held.Break c.in-Break.at c.in-Break.x))))) m) (λ st m. ap (λ (l : Option Name). gives (flow (breaks l)) m) (sym c.label.ensures.value))));
}

pub returns-in-Continue : goal.returns-in-Continue
returns-in-Continue c = record {
  keeps =
      let s = c.args.state.now in
      let stack = c.args.stack.now.items in
      let ts = trees_of s.body.now.code in
      steps_in c.args.env.now stack stack s s (Ok (Follow (Continues c.label-in-Continue.result))) (λ st m. stmt_does st (stmt_at m.trees c.args.i) m)
      (part_by stack stack s s (Ok (Follow (Continues c.label-in-Continue.result))) c.args.i c.args.part (held.Continue c.in-Continue.at c.in-Continue.x) (λ st t m. stmt_does st (as_stmt t) m) c.requires.held c.in-Continue.is
      (goes_step stack s (Follow (Continues c.label-in-Continue.result)) (λ st m. stmt_does st (as_stmt (Some (tree_of m.trees (part_of (held.Continue c.in-Continue.at c.in-Continue.x))))) m) (λ st m. ap (λ (l : Option Name). gives (flow (continues l)) m) (sym c.label-in-Continue.ensures.value))));
}

pub returns-in-Try : goal.returns-in-Try
returns-in-Try c = record {
  keeps =
      let s = c.args.state.now in
      let stack = c.args.stack.now.items in
      let ts = trees_of s.body.now.code in
      steps_in c.args.env.now stack c.wait.new.stack.items s s c.wait.result (λ st m. stmt_does st (stmt_at m.trees c.args.i) m)
      (part_by stack c.wait.new.stack.items s s c.wait.result c.args.i c.args.part (held.Try c.in-Try.at c.in-Try.body c.in-Try.handler) (λ st t m. stmt_does st (as_stmt t) m) c.requires.held c.in-Try.is
      (steps_as stack c.wait.new.stack.items s s c.wait.result (λ st m. with_throw (stmts_do st (stmts_at m.trees c.in-Try.body) m) (handled st c.in-Try.handler)) (λ st m. stmt_does st (as_stmt (Some (tree_of m.trees (part_of (held.Try c.in-Try.at c.in-Try.body c.in-Try.handler))))) m)
      (λ script choices fuel b vs. attempt_is (setting script choices fuel) (moment b vs s) c.in-Try.at c.in-Try.handler (stmts_at ts c.in-Try.body) (stmts_at ts c.in-Try.handler) refl) (c.wait.ensures.keeps s)));
}

pub returns-in_default : goal.returns-in_default
returns-in_default c = record {
  keeps =
      let s = c.args.state.now in
      let stack = c.args.stack.now.items in
      let ts = trees_of s.body.now.code in
      steps_in c.args.env.now stack stack s s (Ok (Follow (Breaks None))) (λ st m. stmt_does st (stmt_at m.trees c.args.i) m)
      (part_by stack stack s s (Ok (Follow (Breaks None))) c.args.i c.args.part c.args.part (λ st t m. stmt_does st (as_stmt t) m) c.requires.held refl
      (goes_step stack s (Follow (Breaks None)) (λ st m. stmt_does st (as_stmt (Some (tree_of m.trees (part_of c.args.part)))) m) (λ st m. no_statement c.args.part c.in_default.not-Declare c.in_default.not-DeclareNowhere c.in_default.not-AssignLocal c.in_default.not-AssignGlobal c.in_default.not-AssignNowhere c.in_default.not-Store c.in_default.not-Perform c.in_default.not-Push c.in_default.not-Delete c.in_default.not-If c.in_default.not-While c.in_default.not-Forever c.in_default.not-Switch c.in_default.not-ReturnNothing c.in_default.not-Return c.in_default.not-Throw c.in_default.not-Break c.in_default.not-Continue c.in_default.not-Try m.trees st m)));
}
