use Rattle.js_tree.specs.Steady.{more_ticks, grows, steady_exec_all}
use Rattle.js_tree.proofs.laws.ticks_and_prints.Goals as goal

pub returns : goal.returns
returns c = record {
  more = more_ticks;
  kept = λ script choices fuel sc ss f. grows (steady_exec_all script choices sc ss) fuel f;
}
