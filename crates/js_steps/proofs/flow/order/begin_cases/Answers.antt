use Rattle.std.proofs.Common.{refl, Some}
use Rattle.std.specs.Prelude.{Ok}
use Rattle.js_tree.specs.Evaluate.{setting, exec_through, go_on}
use Rattle.js_code.specs.Held.{part_of}
use Rattle.js_code.specs.Parts.{as_cases, stmts_at, cases_at, tree_of}
use Rattle.js_code.specs.declared.code.part.Part.TheVariants as held
use Rattle.js_steps.specs.declared.frames.frame.Flow.TheVariants.{Onward}
use Rattle.js_steps.specs.declared.frames.frame.Task.TheVariants.{Follow, Statements}
use Rattle.js_steps.specs.Moment.{frame_in, flowing, stmts_do, with_flow}
use Rattle.js_steps.specs.PartLaws.{steps_as}
use Rattle.js_steps.specs.Stands.{moment}
use Rattle.js_steps.specs.WayLaws.{part_by, goes_step}
use Rattle.js_steps.specs.FlowLaws.{case_is}
use Rattle.js_steps.proofs.Others.{no_case_part}
use Rattle.js_steps.proofs.flow.order.begin_cases.Goals as goal

pub returns-in-Case : goal.returns-in-Case
returns-in-Case c = record {
  keeps =
      let s = c.args.state.now in
      let stack = c.args.stack.now.items in
      let new = c.wait.new.stack.items in
      let body = c.in-Case.body in
      let rest = c.in-Case.rest in
      let w = held.Case body rest c.in-Case.n in
      part_by stack new s s c.wait.result c.args.i c.args.part w (λ st t m. flowing m (exec_through st m.scope (as_cases t) (frame_in m))) c.requires.held c.in-Case.is
      (steps_as stack new s s c.wait.result
      (λ st m. with_flow (stmts_do st (stmts_at m.trees body) m) (λ x n. flowing n (go_on (exec_through st n.scope (cases_at n.trees rest)) x (frame_in n))))
      (λ st m. flowing m (exec_through st m.scope (as_cases (Some (tree_of m.trees (part_of w)))) (frame_in m)))
      (λ script choices fuel b vs. case_is (setting script choices fuel) (moment b vs s) c.in-Case.n body rest) (c.wait.ensures.keeps s));
}

pub returns-in-Default : goal.returns-in-Default
returns-in-Default c = record {
  keeps =
      let s = c.args.state.now in
      let stack = c.args.stack.now.items in
      let w = held.Default c.in-Default.body in
      let t = Statements c.in-Default.body in
      part_by stack stack s s (Ok t) c.args.i c.args.part w (λ st t m. flowing m (exec_through st m.scope (as_cases t) (frame_in m))) c.requires.held c.in-Default.is
      (goes_step stack s t (λ st m. flowing m (exec_through st m.scope (as_cases (Some (tree_of m.trees (part_of w)))) (frame_in m))) (λ st m. refl));
}

pub returns-in_default : goal.returns-in_default
returns-in_default c = record {
  keeps =
      let s = c.args.state.now in
      let stack = c.args.stack.now.items in
      part_by stack stack s s (Ok (Follow Onward)) c.args.i c.args.part c.args.part (λ st t m. flowing m (exec_through st m.scope (as_cases t) (frame_in m))) c.requires.held refl
      (goes_step stack s (Follow Onward) (λ st m. flowing m (exec_through st m.scope (as_cases (Some (tree_of m.trees (part_of c.args.part)))) (frame_in m)))
      (λ st m. no_case_part c.args.part c.in_default.not-Case c.in_default.not-Default m.trees st m));
}
