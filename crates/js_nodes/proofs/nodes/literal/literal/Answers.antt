use Rattle.std.proofs.Common.{rules, refl}
use Rattle.js_grammar.specs.Reads.{stop, reads, called, passed, held, failed, answered}
use Rattle.js_nodes.specs.Handing.{handed}
use Rattle.js_nodes.specs.Views.{expr_read}
use Rattle.js_nodes.proofs.nodes.literal.literal.Goals as goal

pub returns-in_err-x-clause-read : goal.returns-in_err-x-clause-read
returns-in_err-x-clause-read c = stop expr_read c.from_residual.result c.from_residual.ensures.1 (reads (held (search rules) (passed c.in_err-x.ensures.read)))

pub returns-then-names-clause-read : goal.returns-then-names-clause-read
returns-then-names-clause-read c = (reads (held (search rules) (called c.in_ok-x.ensures.read (answered (search rules)))))

pub returns-in_err-n-clause-read : goal.returns-in_err-n-clause-read
returns-in_err-n-clause-read c = stop expr_read c.from_residual-in_err-n.result c.from_residual-in_err-n.ensures.1 (reads (failed (search rules) (held (search rules) (passed c.in_err-n.ensures.read))))

pub returns-then-numbers-clause-read : goal.returns-then-numbers-clause-read
returns-then-numbers-clause-read c = (reads (failed (search rules) (held (search rules) (called c.in_ok-n.ensures.read (answered (search rules))))))

pub returns-in_err-s-clause-read : goal.returns-in_err-s-clause-read
returns-in_err-s-clause-read c = stop expr_read c.from_residual-in_err-s.result c.from_residual-in_err-s.ensures.1 (reads (failed (search rules) (failed (search rules) (held (search rules) (passed c.in_err-s.ensures.read)))))

pub returns-then-quotes-clause-read : goal.returns-then-quotes-clause-read
returns-then-quotes-clause-read c = (reads (failed (search rules) (failed (search rules) (held (search rules) (called c.in_ok-s.ensures.read (answered (search rules)))))))

pub returns-clause-read : goal.returns-clause-read
returns-clause-read c = (reads (failed (search rules) (failed (search rules) (failed (search rules) (handed expr_read expr_read c.word_literal.result c.word_literal.ensures.read (λ x. answered refl))))))
