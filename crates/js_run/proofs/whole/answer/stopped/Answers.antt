use Rattle.std.proofs.Common.{subst}
use Rattle.std.specs.Prelude.{Result}
use Rattle.js_run.specs.declared.walks.stop.Stop.{Stop}
use Rattle.js_run.specs.declared.whole.answer.RunEnd.{RunEnd}
use Rattle.js_run.specs.declared.whole.answer.RunRefusal.{RunRefusal}
use Rattle.js_run.specs.Points.{Stopped}
use Rattle.js_run.specs.Runs.{RunsAs}
use Rattle.js_run.proofs.Ended.{is_refused, over_so, over_untold, failed_so, refused_so}
use Rattle.js_run.proofs.whole.answer.stopped.Goals as goal

pub returns-in-WriteFault : goal.returns-in-WriteFault
returns-in-WriteFault c = record { runs = λ script budget t t1 k k1 s h. failed_so script budget t t1 k k1 s (subst (λ (x : Stop). Stopped script budget t t1 k k1 s x) c.in-WriteFault.is h) }

pub returns-in-NoMemory : goal.returns-in-NoMemory
returns-in-NoMemory c = record { runs = λ script budget t t1 k k1 s h. refused_so script budget t t1 k k1 s (subst (λ (x : Stop). Stopped script budget t t1 k k1 s x) c.in-NoMemory.is h) }

pub returns-in_ok-told-in-Over : goal.returns-in_ok-told-in-Over
returns-in_ok-told-in-Over c = record {
  runs = λ script budget t t1 k k1 s h.
      over_so script budget t t1 k k1 s c.in-Over.end c.in_ok-told-in-Over.told c.in_ok-told-in-Over.ensures.value (subst (λ (x : Stop). Stopped script budget t t1 k k1 s x) c.in-Over.is h);
}

pub returns-in_err-told-in-Over : goal.returns-in_err-told-in-Over
returns-in_err-told-in-Over c = record {
  runs = λ script budget t t1 k k1 s h.
      subst (λ (r : Result RunEnd RunRefusal). RunsAs script budget r t t1 k k1) (is_refused c.from_residual.result c.from_residual.ensures.1)
      (over_untold script budget t t1 k k1 s c.in-Over.end (subst (λ (x : Stop). Stopped script budget t t1 k k1 s x) c.in-Over.is h));
}
