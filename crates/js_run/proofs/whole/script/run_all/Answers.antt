use Rattle.std.proofs.Common.{ℕ, sym, subst}
use Rattle.js_tree.specs.Script.{name}
use Rattle.js_value.specs.HeapSeen.{value_of}
use Rattle.js_run.specs.Points.{Reached, call_left, nothing_left}
use Rattle.js_run.proofs.Values.{stopped_stage}
use Rattle.js_run.proofs.Globals.{call_prints}
use Rattle.js_run.proofs.Begun.{start_point}
use Rattle.js_run.proofs.whole.script.run_all.Goals as goal

pub returns : goal.returns
returns g c = record {
  goes = λ script budget taken sink program a h q reached.
      let p = c.in_ok-set_globals.ensures.goes script budget taken sink script.items program a reached in
      let n =
      c.in_ok-callee.ensures.goes script budget taken sink (name script.start_at script.start) (call_left script.start_at) program h (λ v. call_prints script budget script.start_at v)
      (start_point script budget taken _ sink _ c.set_globals.new.state p) in
      c.call_start.ensures.goes script budget taken sink program
      (subst (λ (at : ℕ). Reached script budget taken (g.C.Choices.taken c.first_value.new.choices) sink (g.O.Sink.state c.first_value.new.out) c.first_value.new.state (call_left at (value_of c.in_ok-callee.callee))) (sym q) n);
}

pub returns-in_err-set_globals : goal.returns-in_err-set_globals
returns-in_err-set_globals g c = record {
  goes = λ script budget taken sink program a h q reached.
      stopped_stage script budget taken _ sink _ c.set_globals.new.state _ c.from_residual.result (λ _. nothing_left) c.from_residual.ensures.1
      (c.in_err-set_globals.ensures.goes script budget taken sink script.items program a reached);
}

pub returns-in_err-callee : goal.returns-in_err-callee
returns-in_err-callee g c = record {
  goes = λ script budget taken sink program a h q reached.
      let p = c.in_ok-set_globals.ensures.goes script budget taken sink script.items program a reached in
      stopped_stage script budget taken _ sink _ c.first_value.new.state _ c.from_residual-in_err-callee.result (λ _. nothing_left) c.from_residual-in_err-callee.ensures.1
      (c.in_err-callee.ensures.goes script budget taken sink (name script.start_at script.start) (call_left script.start_at) program h (λ v. call_prints script budget script.start_at v)
      (start_point script budget taken _ sink _ c.set_globals.new.state p));
}
