use Rattle.std.proofs.Common.{subst, ap}
use Rattle.std.specs.Prelude.{Result}
use Rattle.js_tree.specs.Value.{Ended}
use Rattle.js_run.specs.declared.walks.stop.Stop.{Stop}
use Rattle.js_run.specs.Points.{Stage, nothing_left}
use Rattle.js_run.proofs.Ended.{returned}
use Rattle.js_run.proofs.whole.answer.ended.Goals as goal

pub returns-in-Ok : goal.returns-in-Ok
returns-in-Ok c = record {
  runs = λ script budget t t1 k k1 s h.
      returned script budget t t1 k k1 s _ (ap (Ended 0) c.new.ensures) (subst (λ (x : Result (Unit {0}) Stop). Stage script budget t t1 k k1 s x (λ _. nothing_left)) c.in-Ok.is h);
}

pub returns-in-Err : goal.returns-in-Err
returns-in-Err c = record {
  runs = λ script budget t t1 k k1 s h. c.stopped.ensures.runs script budget t t1 k k1 s (subst (λ (x : Result (Unit {0}) Stop). Stage script budget t t1 k k1 s x (λ _. nothing_left)) c.in-Err.is h);
}
