use Rattle.std.proofs.Common.{rules, refl}
use Rattle.js_grammar.specs.Reads.{stop, reads, called, passed, held, failed, answered}
use Rattle.js_nodes.specs.Handing.{handed}
use Rattle.js_nodes.specs.Views.{expr_read}
use Rattle.js_nodes.proofs.nodes.literal.word_literal.Goals as goal

pub returns-in_err-rest-clause-read : goal.returns-in_err-rest-clause-read
returns-in_err-rest-clause-read c = stop expr_read c.from_residual.result c.from_residual.ensures.1 (reads (held (search rules) (passed c.in_err-rest.ensures.read)))

pub returns-then-is_word-clause-read : goal.returns-then-is_word-clause-read
returns-then-is_word-clause-read c = (reads (held (search rules) (called c.in_ok-rest.ensures.read (answered (search rules)))))

pub returns-in_err-rest-2-clause-read : goal.returns-in_err-rest-2-clause-read
returns-in_err-rest-2-clause-read c = stop expr_read c.from_residual-in_err-rest-2.result c.from_residual-in_err-rest-2.ensures.1 (reads (failed (search rules) (held (search rules) (passed c.in_err-rest-2.ensures.read))))

pub returns-then-is_word-2-clause-read : goal.returns-then-is_word-2-clause-read
returns-then-is_word-2-clause-read c = (reads (failed (search rules) (held (search rules) (called c.in_ok-rest-2.ensures.read (answered (search rules))))))

pub returns-in_err-rest-3-clause-read : goal.returns-in_err-rest-3-clause-read
returns-in_err-rest-3-clause-read c = stop expr_read c.from_residual-in_err-rest-3.result c.from_residual-in_err-rest-3.ensures.1 (reads (failed (search rules) (failed (search rules) (held (search rules) (passed c.in_err-rest-3.ensures.read)))))

pub returns-then-is_word-3-clause-read : goal.returns-then-is_word-3-clause-read
returns-then-is_word-3-clause-read c = (reads (failed (search rules) (failed (search rules) (held (search rules) (called c.in_ok-rest-3.ensures.read (answered (search rules)))))))

pub returns-clause-read : goal.returns-clause-read
returns-clause-read c = (reads (failed (search rules) (failed (search rules) (failed (search rules) (handed expr_read expr_read c.dictionary.result c.dictionary.ensures.read (λ x. answered refl))))))
