use Rattle.std.proofs.Common.{sym, arith}
use Rattle.js_grammar.proofs.Runs.{begins_short}
use Rattle.js_grammar.proofs.lexer.begins.Goals as goal

pub returns-then-sign-text-clause-value : goal.returns-then-sign-text-clause-value
returns-then-sign-text-clause-value c = sym (begins_short c.args.sign.now c.args.text.now (omega arith))
