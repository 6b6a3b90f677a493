use Rattle.std.proofs.Common.{refl, Some}
use Rattle.std.specs.Prelude.{Ok}
use Rattle.js_tree.specs.Evaluate.{setting}
use Rattle.js_code.specs.Held.{part_of}
use Rattle.js_code.specs.Parts.{as_else, expr_at, stmts_at, else_at, tree_of, trees_of}
use Rattle.js_code.specs.declared.code.part.Part.TheVariants as held
use Rattle.js_steps.specs.declared.frames.frame.Flow.TheVariants.{Onward}
use Rattle.js_steps.specs.declared.frames.frame.Task.TheVariants.{Follow, Statements}
use Rattle.js_steps.specs.Moment.{else_does}
use Rattle.js_steps.specs.Stands.{moment}
use Rattle.js_steps.specs.WayLaws.{part_by, goes_step, begins}
use Rattle.js_steps.proofs.Others.{else_if_is, no_else_part}
use Rattle.js_steps.proofs.flow.order.begin_else.Goals as goal

pub returns-in-ElseBlock : goal.returns-in-ElseBlock
returns-in-ElseBlock c = record {
  keeps =
      let s = c.args.state.now in
      let stack = c.args.stack.now.items in
      let w = held.ElseBlock c.in-ElseBlock.body in
      let t = Statements c.in-ElseBlock.body in
      part_by stack stack s s (Ok t) c.args.i c.args.part w (λ st t m. else_does st (as_else t) m) c.requires.held c.in-ElseBlock.is
      (goes_step stack s t (λ st m. else_does st (as_else (Some (tree_of m.trees (part_of w)))) m) (λ st m. refl));
}

pub returns-in-ElseIf : goal.returns-in-ElseIf
returns-in-ElseIf c = record {
  keeps =
      let s = c.args.state.now in
      let w = held.ElseIf c.in-ElseIf.at c.in-ElseIf.test c.in-ElseIf.body c.in-ElseIf.other in
      begins c.args.stack.now.items c.first.new.stack.items s c.first.new.state c.first.result c.args.i c.in-ElseIf.test c.args.part w (λ st t m. else_does st (as_else t) m) c.requires.held c.in-ElseIf.is
      (λ script choices fuel b vs _.
      let ts = trees_of s.body.now.code in
      else_if_is (setting script choices fuel) (moment b vs s) c.in-ElseIf.at (expr_at ts c.in-ElseIf.test) (stmts_at ts c.in-ElseIf.body) (else_at ts c.in-ElseIf.other))
      c.first.ensures.keeps;
}

pub returns-in_default : goal.returns-in_default
returns-in_default c = record {
  keeps =
      let s = c.args.state.now in
      let stack = c.args.stack.now.items in
      part_by stack stack s s (Ok (Follow Onward)) c.args.i c.args.part c.args.part (λ st t m. else_does st (as_else t) m) c.requires.held refl
      (goes_step stack s (Follow Onward) (λ st m. else_does st (as_else (Some (tree_of m.trees (part_of c.args.part)))) m) (λ st m. no_else_part c.args.part c.in_default.not-ElseBlock c.in_default.not-ElseIf m.trees st m));
}
