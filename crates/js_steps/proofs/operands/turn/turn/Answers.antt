use Rattle.std.proofs.Common.{ap, sym, subst, ◌∙◌}
use Rattle.js_tree.specs.Evaluate.{setting, Flow}
use Rattle.js_code.specs.Parts.{stmt_at, stmts_at}
use Rattle.js_steps.specs.Moment.{Moment, Out, with_flow, stmts_do}
use Rattle.js_steps.specs.Stack.{resume, turned}
use Rattle.js_steps.specs.Stands.{Keeps, moment, world_of}
use Rattle.js_steps.specs.TickLaws.{moment_ticked, stands_ticked, tick_is}
use Rattle.js_steps.proofs.Turns.{turn_goes, turn_stops}
use Rattle.js_steps.proofs.operands.turn.turn.Goals as goal

pub returns : goal.returns
returns c = record {
  keeps = λ script choices fuel b vs h.
      let st = setting script choices fuel in
      let s = c.args.state.now in
      let s1 = c.tick.new.state in
      let m = moment b vs s in
      let t = c.in_ok-tick.ensures.ticks in
      let k = λ (x : Flow) (n : Moment). turned st (stmt_at n.trees c.args.i) x n in
      subst (λ (o : Out). Keeps script choices fuel b (resume st c.args.stack.now.items vs.callers o) c.wait.new.stack.items s1 c.wait.result)
      (sym (turn_goes st m (world_of b vs s1) c.args.i (stmts_at m.trees c.args.body) (tick_is b vs s s1 t)
      ∙ ap (λ (n : Moment). with_flow (stmts_do st (stmts_at n.trees c.args.body) n) k) (sym (moment_ticked b vs s s1 t))))
      (c.wait.ensures.keeps s1 script choices fuel b vs (stands_ticked script fuel vs c.args.stack.now.items s s1 t h));
}

pub returns-in_err-tick : goal.returns-in_err-tick
returns-in_err-tick c = record { keeps = turn_stops c.args.stack.now.items c.args.state.now c.tick.new.state c.from_residual.result _ c.args.i c.args.body c.from_residual.ensures.1 c.in_err-tick.ensures.ticks }
