use Rattle.js_plain.specs.Control.{results_upto}
use Rattle.js_plain.specs.Lines.{RunsResults}
use Rattle.js_plain.proofs.control.list_results.Given as goal

abbrev pub invariant-loop-i : goal.invariant-loop-i
invariant-loop-i l = RunsResults l.initial.b l.b (results_upto l.i)
