use Rattle.std.proofs.Common.{◌-◌, ◌≤◌, length}
use Rattle.js_grammar.specs.Tokens.{places}
use Rattle.js_grammar.proofs.Passing.{Passed}
use Rattle.js_grammar.proofs.lexer.tokens.Given as goal

abbrev pub invariant-bytes : goal.invariant-bytes
invariant-bytes l = record { within : l.at ≤ length l.bytes; passed : Passed l.bytes l.from l.at l.newlines (places l.tokens.items) }

abbrev pub decreases-bytes : goal.decreases-bytes
decreases-bytes l = length l.bytes - l.at
