use Rattle.std.proofs.Common.{rules}
use Rattle.js_grammar.specs.Reads.{stop, reads, called, passed, held, failed, answered}
use Rattle.js_nodes.specs.Views.{stmt_read}
use Rattle.js_read.proofs.effect.returned.Goals as goal

pub returns-in_err-rest-clause-read : goal.returns-in_err-rest-clause-read
returns-in_err-rest-clause-read c = stop stmt_read c.from_residual.result c.from_residual.ensures.1 (reads (passed c.in_err-rest.ensures.read))

pub returns-in_err-rest-2-clause-read : goal.returns-in_err-rest-2-clause-read
returns-in_err-rest-2-clause-read c = stop stmt_read c.from_residual-in_err-rest-2.result c.from_residual-in_err-rest-2.ensures.1 (reads (called c.in_ok-rest.ensures.read (held (search rules) (passed c.in_err-rest-2.ensures.read))))

pub returns-then-is_sign-clause-read : goal.returns-then-is_sign-clause-read
returns-then-is_sign-clause-read c = (reads (called c.in_ok-rest.ensures.read (held (search rules) (called c.in_ok-rest-2.ensures.read (answered (search rules))))))

pub returns-in_err-e-clause-read : goal.returns-in_err-e-clause-read
returns-in_err-e-clause-read c = stop stmt_read c.from_residual-in_err-e.result c.from_residual-in_err-e.ensures.1 (reads (called c.in_ok-rest.ensures.read (failed (search rules) (passed c.in_err-e.ensures.read))))

pub returns-in_err-rest-3-clause-read : goal.returns-in_err-rest-3-clause-read
returns-in_err-rest-3-clause-read c = stop stmt_read c.from_residual-in_err-rest-3.result c.from_residual-in_err-rest-3.ensures.1 (reads (called c.in_ok-rest.ensures.read (failed (search rules) (called c.in_ok-e.ensures.read (passed c.in_err-rest-3.ensures.read)))))

pub returns-clause-read : goal.returns-clause-read
returns-clause-read c = (reads (called c.in_ok-rest.ensures.read (failed (search rules) (called c.in_ok-e.ensures.read (called c.in_ok-rest-3.ensures.read (answered (search rules)))))))
