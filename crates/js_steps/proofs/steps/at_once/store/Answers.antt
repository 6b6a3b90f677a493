use Rattle.std.proofs.Common.{refl}
use Rattle.std.specs.Prelude.{Ok, Err}
use Rattle.js_steps.specs.declared.frames.frame.End.TheVariants as end
use Rattle.js_steps.specs.declared.frames.frame.Flow.TheVariants.{Onward}
use Rattle.js_steps.specs.declared.frames.frame.Halt.TheVariants.{Over}
use Rattle.js_steps.specs.declared.frames.frame.Task.TheVariants.{Follow}
use Rattle.js_steps.specs.declared.frames.state.State.{State}
use Rattle.js_steps.specs.Stands.{OnlyObjects}
use Rattle.js_steps.proofs.Once.{goes_on, is_stuck, store_did, store_stops, store_stops_second, store_stops_third, stopped_did}
use Rattle.js_steps.proofs.steps.at_once.store.Goals as goal

pub returns-in_err-u : goal.returns-in_err-u
returns-in_err-u c = record { value = λ stack. stopped_did stack c.args.state.now c.simple.new.state c.from_residual.result _ _ c.from_residual.ensures.1 (store_stops stack c.args.state.now c.simple.new.state _ c.args.at c.args.e c.args.i c.args.value c.in_err-u.ensures.value) }

pub returns-in_err-k : goal.returns-in_err-k
returns-in_err-k c = record { value = λ stack. stopped_did stack c.args.state.now c.simple-2.new.state c.from_residual-in_err-k.result _ _ c.from_residual-in_err-k.ensures.1 (store_stops_second stack c.args.state.now c.simple.new.state c.simple-2.new.state _ c.args.at c.args.e c.args.i c.args.value c.in_ok-u.u c.in_ok-u.ensures.same c.in_ok-u.ensures.value c.in_err-k.ensures.value) }

pub returns-in_err-v : goal.returns-in_err-v
returns-in_err-v c = record { value = λ stack. stopped_did stack c.args.state.now c.simple-3.new.state c.from_residual-in_err-v.result _ _ c.from_residual-in_err-v.ensures.1 (store_stops_third stack c.args.state.now c.simple.new.state c.simple-2.new.state c.simple-3.new.state _ c.args.at c.args.e c.args.i c.args.value c.in_ok-u.u c.in_ok-k.k c.in_ok-u.ensures.same c.in_ok-u.ensures.value c.in_ok-k.ensures.same c.in_ok-k.ensures.value c.in_err-v.ensures.value) }

pub returns-then-stored : goal.returns-then-stored
returns-then-stored c = record {
  value = λ stack.
      let s3 = c.simple-3.new.state in
      let s4 : State = record s3 { objects = c.store.new.objects } in
      let only : OnlyObjects s3 s4 = record { left = refl; globals = refl; body = refl; locals = refl; caught = refl } in
      store_did stack c.args.state.now c.simple.new.state c.simple-2.new.state s3 s4 c.args.at c.args.e c.args.i c.args.value c.in_ok-u.u c.in_ok-k.k c.in_ok-v.v c.in_ok-stored.stored (Ok (Follow Onward)) c.in_ok-u.ensures.same c.in_ok-u.ensures.value c.in_ok-k.ensures.same c.in_ok-k.ensures.value c.in_ok-v.ensures.same c.in_ok-v.ensures.value only
      c.in_ok-stored.ensures.value c.in_ok-stored.ensures.same (goes_on c.args.at c.in_ok-stored.stored c.if-stored.true);
}

pub returns : goal.returns
returns c = record {
  value = λ stack.
      let s3 = c.simple-3.new.state in
      let s4 : State = record s3 { objects = c.store.new.objects } in
      let only : OnlyObjects s3 s4 = record { left = refl; globals = refl; body = refl; locals = refl; caught = refl } in
      store_did stack c.args.state.now c.simple.new.state c.simple-2.new.state s3 s4 c.args.at c.args.e c.args.i c.args.value c.in_ok-u.u c.in_ok-k.k c.in_ok-v.v c.in_ok-stored.stored (Err (Over (end.Stuck c.args.at))) c.in_ok-u.ensures.same c.in_ok-u.ensures.value c.in_ok-k.ensures.same c.in_ok-k.ensures.value c.in_ok-v.ensures.same c.in_ok-v.ensures.value only
      c.in_ok-stored.ensures.value c.in_ok-stored.ensures.same (is_stuck c.args.at c.in_ok-stored.stored c.if-stored.false);
}
