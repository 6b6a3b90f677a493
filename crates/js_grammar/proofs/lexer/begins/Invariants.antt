use Rattle.std.proofs.Common.{◌≡◌, ◌-◌, ◌≤◌, length, drop}
use Rattle.js_tree.specs.Lexical.{begins}
use Rattle.js_grammar.proofs.lexer.begins.Given as goal

abbrev pub invariant-bytes : goal.invariant-bytes
invariant-bytes l = record { within : l.at ≤ length l.sign; same : begins (drop l.at l.sign) (drop l.at l.text) ≡ begins l.sign l.text }

abbrev pub decreases-bytes : goal.decreases-bytes
decreases-bytes l = length l.sign - l.at
