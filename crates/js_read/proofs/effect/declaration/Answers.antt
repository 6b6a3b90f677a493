use Rattle.std.proofs.Common.{rules}
use Rattle.js_grammar.specs.Reads.{stop, reads, called, passed, answered}
use Rattle.js_nodes.specs.Views.{declared_read}
use Rattle.js_read.proofs.effect.declaration.Goals as goal

pub returns-in_err-rest-clause-read : goal.returns-in_err-rest-clause-read
returns-in_err-rest-clause-read c = stop declared_read c.from_residual.result c.from_residual.ensures.1 (reads (passed c.in_err-rest.ensures.read))

pub returns-in_err-x-clause-read : goal.returns-in_err-x-clause-read
returns-in_err-x-clause-read c = stop declared_read c.from_residual-in_err-x.result c.from_residual-in_err-x.ensures.1 (reads (called c.in_ok-rest.ensures.read (passed c.in_err-x.ensures.read)))

pub returns-in_err-rest-2-clause-read : goal.returns-in_err-rest-2-clause-read
returns-in_err-rest-2-clause-read c = stop declared_read c.from_residual-in_err-rest-2.result c.from_residual-in_err-rest-2.ensures.1 (reads (called c.in_ok-rest.ensures.read (called c.in_ok-x.ensures.read (passed c.in_err-rest-2.ensures.read))))

pub returns-in_err-e-clause-read : goal.returns-in_err-e-clause-read
returns-in_err-e-clause-read c = stop declared_read c.from_residual-in_err-e.result c.from_residual-in_err-e.ensures.1 (reads (called c.in_ok-rest.ensures.read (called c.in_ok-x.ensures.read (called c.in_ok-rest-2.ensures.read (passed c.in_err-e.ensures.read)))))

pub returns-in_err-rest-3-clause-read : goal.returns-in_err-rest-3-clause-read
returns-in_err-rest-3-clause-read c = stop declared_read c.from_residual-in_err-rest-3.result c.from_residual-in_err-rest-3.ensures.1 (reads (called c.in_ok-rest.ensures.read (called c.in_ok-x.ensures.read (called c.in_ok-rest-2.ensures.read (called c.in_ok-e.ensures.read (passed c.in_err-rest-3.ensures.read))))))

pub returns-clause-read : goal.returns-clause-read
returns-clause-read c = (reads (called c.in_ok-rest.ensures.read (called c.in_ok-x.ensures.read (called c.in_ok-rest-2.ensures.read (called c.in_ok-e.ensures.read (called c.in_ok-rest-3.ensures.read (answered (search rules))))))))
