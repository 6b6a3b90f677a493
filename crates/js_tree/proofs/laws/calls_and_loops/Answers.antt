use Rattle.js_tree.specs.Laws.{call_does, while_does, forever_does}
use Rattle.js_tree.proofs.laws.calls_and_loops.Goals as goal

pub returns : goal.returns
returns c = record {
  calls = call_does;
  whiles = while_does;
  forevers = forever_does;
}
