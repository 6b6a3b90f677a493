use Rattle.go_lexer.proofs.WholeLemmas.{found, told}
use Rattle.std.proofs.lemmas.Result.{MatchResult-weaker}
use Rattle.go_lexer.proofs.lexer.lex.Goals as goal

pub returns-clause-tokens : goal.returns-clause-tokens
returns-clause-tokens c = MatchResult-weaker c.read.result c.read.ensures.tokens (λ tokens is. found c.args.file c.args.bytes.now tokens is) (λ e h. h)

pub returns-clause-fault : goal.returns-clause-fault
returns-clause-fault c = MatchResult-weaker c.read.result c.read.ensures.fault (λ tokens h. h) (λ e is. told c.args.file c.args.bytes.now e is)
