use Rattle.std.proofs.Common.{refl, Some}
use Rattle.std.specs.Prelude.{Ok}
use Rattle.js_code.specs.Held.{part_of}
use Rattle.js_code.specs.Parts.{as_stmts, stmt_at, stmts_at, tree_of}
use Rattle.js_code.specs.declared.code.part.Part.TheVariants as held
use Rattle.js_tree.specs.Evaluate.{exec_all, go_on}
use Rattle.js_steps.specs.declared.frames.frame.Flow.TheVariants.{Onward}
use Rattle.js_steps.specs.declared.frames.frame.Task.TheVariants.{Follow}
use Rattle.js_steps.specs.Moment.{frame_in, flowing, stmt_does, stmts_do, with_flow}
use Rattle.js_steps.specs.PartLaws.{steps_as}
use Rattle.js_steps.specs.Stands.{moment}
use Rattle.js_tree.specs.Evaluate.{setting}
use Rattle.js_steps.specs.WayLaws.{part_by, goes_step}
use Rattle.js_steps.specs.FlowLaws.{stmts_are}
use Rattle.js_steps.proofs.Others.{no_statements}
use Rattle.js_steps.proofs.flow.order.begin_statements.Goals as goal

pub returns-in-Then : goal.returns-in-Then
returns-in-Then c = record {
  keeps =
      let s = c.args.state.now in
      let stack = c.args.stack.now.items in
      let new = c.with_rest.new.stack.items in
      let first = c.in-Then.first in
      let rest = c.in-Then.rest in
      let w = held.Then first rest in
      part_by stack new s s c.with_rest.result c.args.i c.args.part w (λ st t m. stmts_do st (as_stmts t) m) c.requires.held c.in-Then.is
      (steps_as stack new s s c.with_rest.result
      (λ st m. with_flow (stmt_does st (stmt_at m.trees first) m) (λ x n. flowing n (go_on (exec_all st n.scope (stmts_at n.trees rest)) x (frame_in n))))
      (λ st m. stmts_do st (as_stmts (Some (tree_of m.trees (part_of w)))) m)
      (λ script choices fuel b vs. stmts_are (setting script choices fuel) (moment b vs s) first rest) c.with_rest.ensures.keeps);
}

pub returns-in_default : goal.returns-in_default
returns-in_default c = record {
  keeps =
      let s = c.args.state.now in
      let stack = c.args.stack.now.items in
      part_by stack stack s s (Ok (Follow Onward)) c.args.i c.args.part c.args.part (λ st t m. stmts_do st (as_stmts t) m) c.requires.held refl
      (goes_step stack s (Follow Onward) (λ st m. stmts_do st (as_stmts (Some (tree_of m.trees (part_of c.args.part)))) m) (λ st m. no_statements c.args.part c.in_default.not-Then m.trees st m));
}
