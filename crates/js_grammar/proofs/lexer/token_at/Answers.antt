use Rattle.std.proofs.Common.{arith, rules}
use Rattle.js_grammar.specs.Lexed.{found_as}
use Rattle.js_grammar.proofs.FirstToken.{token_sign, token_string}
use Rattle.js_grammar.proofs.lexer.token_at.Goals as goal

pub returns-then-c-ne34-clause-value : goal.returns-then-c-ne34-clause-value
returns-then-c-ne34-clause-value c =
    token_sign c.args.text.now (found_as c.sign_at.result c.args.text.now) (omega arith) (search rules) (search rules) (search rules) c.sign_at.ensures.value

pub returns-in-Some-clause-value : goal.returns-in-Some-clause-value
returns-in-Some-clause-value c =
    token_string c.args.text.now c.in-Some.n (omega arith) (search rules) (search rules) (search rules) (search rules)
