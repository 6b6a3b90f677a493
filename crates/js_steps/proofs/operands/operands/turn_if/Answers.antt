use Rattle.std.proofs.Common.{refl}
use Rattle.std.specs.Prelude.{Ok}
use Rattle.js_tree.specs.Value.{gives}
use Rattle.js_tree.specs.Evaluate.{Setting, onward}
use Rattle.js_code.specs.Parts.{stmt_at, stmts_at}
use Rattle.js_value.specs.HeapSeen.{value_of}
use Rattle.js_steps.specs.declared.frames.frame.Flow.TheVariants.{Onward}
use Rattle.js_steps.specs.declared.frames.frame.Task.TheVariants.{Follow}
use Rattle.js_steps.specs.Moment.{Moment, Out, flow}
use Rattle.js_steps.specs.PartWaits.{turn_does}
use Rattle.js_steps.specs.Stack.{loop_label}
use Rattle.js_steps.specs.ChoiceLaws.{chosen_left, chosen_right, chosen_stop}
use Rattle.js_steps.specs.WayLaws.{chosen_ways, goes_step}
use Rattle.js_steps.proofs.operands.operands.turn_if.Goals as goal

pub returns-then-truth : goal.returns-then-truth
returns-then-truth c = record {
  keeps =
      let s = c.args.state.now in
      let stack = c.args.stack.now.items in
      let new = c.turn.new.stack.items in
      let s1 = c.turn.new.state in
      let v = value_of c.args.test in
      let left : Setting → Moment → Out = λ st n. turn_does st (stmt_at n.trees c.args.i) (loop_label (stmt_at n.trees c.args.i)) (stmts_at n.trees c.args.body) n in
      let right : Setting → Moment → Out = λ st. gives (flow onward) in
      chosen_ways stack new s s1 c.turn.result c.args.at v left right
      (λ st m. turn_does st (stmt_at m.trees c.args.i) (loop_label (stmt_at m.trees c.args.i)) (stmts_at m.trees c.args.body)) (λ st m. gives (flow onward)) (λ st m. refl) (λ st m. refl)
      (chosen_left stack new s s1 c.turn.result c.args.at v c.in_ok-truth.truth left right c.in_ok-truth.ensures.value c.if-truth.true c.turn.ensures.keeps);
}

pub returns : goal.returns
returns c = record {
  keeps =
      let s = c.args.state.now in
      let stack = c.args.stack.now.items in
      let v = value_of c.args.test in
      let left : Setting → Moment → Out = λ st n. turn_does st (stmt_at n.trees c.args.i) (loop_label (stmt_at n.trees c.args.i)) (stmts_at n.trees c.args.body) n in
      let right : Setting → Moment → Out = λ st. gives (flow onward) in
      chosen_ways stack stack s s (Ok (Follow Onward)) c.args.at v left right
      (λ st m. turn_does st (stmt_at m.trees c.args.i) (loop_label (stmt_at m.trees c.args.i)) (stmts_at m.trees c.args.body)) (λ st m. gives (flow onward)) (λ st m. refl) (λ st m. refl)
      (chosen_right stack stack s s (Ok (Follow Onward)) c.args.at v c.in_ok-truth.truth left right c.in_ok-truth.ensures.value c.if-truth.false
      (goes_step stack s (Follow Onward) right (λ st m. refl)));
}

pub returns-in_err-truth : goal.returns-in_err-truth
returns-in_err-truth c = record {
  keeps =
      let s = c.args.state.now in
      let stack = c.args.stack.now.items in
      let v = value_of c.args.test in
      let left : Setting → Moment → Out = λ st n. turn_does st (stmt_at n.trees c.args.i) (loop_label (stmt_at n.trees c.args.i)) (stmts_at n.trees c.args.body) n in
      let right : Setting → Moment → Out = λ st. gives (flow onward) in
      chosen_ways stack stack s s c.from_residual.result c.args.at v left right
      (λ st m. turn_does st (stmt_at m.trees c.args.i) (loop_label (stmt_at m.trees c.args.i)) (stmts_at m.trees c.args.body)) (λ st m. gives (flow onward)) (λ st m. refl) (λ st m. refl)
      (chosen_stop stack s c.from_residual.result c.args.at v _ left right c.from_residual.ensures.1 c.in_err-truth.ensures.value);
}
