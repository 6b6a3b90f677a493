use Rattle.js_tree.specs.Steady.{run_is, run_stops}
use Rattle.js_tree.proofs.laws.runs_follow.Goals as goal

pub returns : goal.returns
returns c = record {
  runs = λ script choices d o sound h. record { enough = λ n l. run_is sound h n l; too_few = λ n l. run_stops sound h n l };
}
