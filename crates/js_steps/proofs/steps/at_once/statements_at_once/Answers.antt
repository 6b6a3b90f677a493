use Rattle.std.proofs.Common.{refl, sym, subst, length}
use Rattle.std.specs.Prelude.{Ok}
use Rattle.js_code.specs.Parts.{stmt_at, stmts_at}
use Rattle.js_steps.specs.declared.frames.frame.Task.TheVariants.{Statements}
use Rattle.js_steps.specs.declared.frames.state.State.{State}
use Rattle.js_steps.specs.Moment.{stmt_does, stmts_do}
use Rattle.js_steps.specs.Stands.{Steps}
use Rattle.js_steps.specs.WayLaws.{goes_step}
use Rattle.js_steps.proofs.Once.{did_so, did_not, stopped_steps}
use Rattle.js_steps.proofs.Orders.{then_steps, rest_left, rest_stops}
use Rattle.js_steps.proofs.steps.at_once.statements_at_once.Goals as goal

pub loop-turn-init : goal.loop-turn-init
loop-turn-init c = goes_step c.args.stack.now.items c.args.state.now (Statements c.args.i) (λ st m. stmts_do st (stmts_at m.trees c.args.i) m) (λ st m. refl)

pub loop-turn-preserved : goal.loop-turn-preserved
loop-turn-preserved c =
    let s = c.loop-turn.state in
    let s1 = c.at_once.new.state in
    let stack = c.loop-turn.stack.items in
    let t = c.in-Some.then in
    then_steps c.args.stack.now.items stack stack c.args.state.now s s1 (Statements c.loop-turn.list) (Ok (Statements t.rest)) (λ st m. stmts_do st (stmts_at m.trees c.args.i) m) c.loop-turn.invariant
    (rest_left stack s s1 c.loop-turn.list t.first t.rest c.in-Some.ensures.value
    (λ k. did_so k s s1 c.in_ok-did-in-Some.did (λ st m. stmt_does st (stmt_at m.trees t.first) m) (c.in_ok-did-in-Some.ensures.value k) c.if-did.true))

pub returns-in_err-did-in-Some : goal.returns-in_err-did-in-Some
returns-in_err-did-in-Some c = record {
  keeps =
      let s = c.loop-turn.state in
      let s1 = c.at_once.new.state in
      let stack = c.loop-turn.stack.items in
      let t = c.in-Some.then in
      then_steps c.args.stack.now.items stack stack c.args.state.now s s1 (Statements c.loop-turn.list) c.from_residual.result (λ st m. stmts_do st (stmts_at m.trees c.args.i) m) c.loop-turn.invariant
      (stopped_steps stack s s1 c.from_residual.result _ (λ st m. stmts_do st (stmts_at m.trees c.loop-turn.list) m) c.from_residual.ensures.1
      (rest_stops stack s s1 _ c.loop-turn.list t.first t.rest c.in-Some.ensures.value c.in_err-did-in-Some.ensures.value));
}

pub returns-else-did : goal.returns-else-did
returns-else-did c = record {
  keeps =
      let s = c.loop-turn.state in
      let s1 = c.at_once.new.state in
      let stack = c.loop-turn.stack.items in
      let t = c.in-Some.then in
      let q = did_not stack s s1 c.in_ok-did-in-Some.did (λ st m. stmt_does st (stmt_at m.trees t.first) m) (c.in_ok-did-in-Some.ensures.value stack) c.if-did.false in
      let inv = subst (λ (z : State). Steps c.args.stack.now.items c.args.state.now stack z (Ok (Statements c.loop-turn.list)) (λ st m. stmts_do st (stmts_at m.trees c.args.i) m)) (sym q) c.loop-turn.invariant in
      then_steps c.args.stack.now.items stack c.statements.new.stack.items c.args.state.now s1 s1 (Statements c.loop-turn.list) c.statements.result (λ st m. stmts_do st (stmts_at m.trees c.args.i) m) inv c.statements.ensures.keeps;
}

pub returns-in-None : goal.returns-in-None
returns-in-None c = record {
  keeps =
      then_steps c.args.stack.now.items c.loop-turn.stack.items c.statements-in-None.new.stack.items c.args.state.now c.loop-turn.state c.loop-turn.state (Statements c.loop-turn.list) c.statements-in-None.result (λ st m. stmts_do st (stmts_at m.trees c.args.i) m) c.loop-turn.invariant
      c.statements-in-None.ensures.keeps;
}
