use Rattle.std.proofs.Common.{◌≡◌, ◌-◌, ◌+◌, ◌≤◌, length, drop}
use Rattle.js_grammar.specs.Scan.{run}
use Rattle.js_grammar.proofs.lexer.run.Given as goal

abbrev pub invariant-bytes : goal.invariant-bytes
invariant-bytes l = record { within : l.n ≤ length l.text; same : run l.text ≡ l.n + run (drop l.n l.text) }

abbrev pub decreases-bytes : goal.decreases-bytes
decreases-bytes l = length l.text - l.n
