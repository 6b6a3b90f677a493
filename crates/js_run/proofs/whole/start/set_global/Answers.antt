use Rattle.js_run.proofs.Values.{stopped_stage}
use Rattle.js_run.proofs.Globals.{set_then, set_prints, first_item, global_set}
use Rattle.js_run.specs.Points.{items_left}
use Rattle.js_run.proofs.whole.start.set_global.Goals as goal

pub returns : goal.returns
returns g c = record {
  room = c.first_value.ensures.room;
  goes = λ script budget taken sink at x e rest program h reached.
      global_set script budget taken _ sink _ c.first_value.new.state c.set_global.new.state c.args.first.now x e rest c.in_ok-v.v h c.set_global.ensures.value c.set_global.ensures.same
      (c.in_ok-v.ensures.goes script budget taken sink e (set_then x rest) program h.body (λ v. set_prints script budget x rest v) (first_item script budget taken _ sink _ c.args.state.now at x e rest reached));
}

pub returns-in_err-v : goal.returns-in_err-v
returns-in_err-v g c = record {
  room = c.first_value.ensures.room;
  goes = λ script budget taken sink at x e rest program h reached.
      stopped_stage script budget taken _ sink _ c.first_value.new.state _ c.from_residual.result (λ _. items_left rest) c.from_residual.ensures.1
      (c.in_err-v.ensures.goes script budget taken sink e (set_then x rest) program h.body (λ v. set_prints script budget x rest v) (first_item script budget taken _ sink _ c.args.state.now at x e rest reached));
}
