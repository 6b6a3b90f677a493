use Rattle.std.proofs.Common.{rules}
use Rattle.js_grammar.specs.Reads.{reading, stop, reads, called, passed}
use Rattle.js_nodes.specs.Views.{expr_read}
use Rattle.js_nodes.proofs.nodes.part.dictionary.Goals as goal

pub returns-in_err-rest-clause-read : goal.returns-in_err-rest-clause-read
returns-in_err-rest-clause-read c = stop expr_read c.from_residual.result c.from_residual.ensures.1 (reads (passed c.in_err-rest.ensures.read))

pub returns-in_err-rest-2-clause-read : goal.returns-in_err-rest-2-clause-read
returns-in_err-rest-2-clause-read c = stop expr_read c.from_residual-in_err-rest-2.result c.from_residual-in_err-rest-2.ensures.1 (reads (called c.in_ok-rest.ensures.read (passed c.in_err-rest-2.ensures.read)))

pub returns-in_err-rest-3-clause-read : goal.returns-in_err-rest-3-clause-read
returns-in_err-rest-3-clause-read c = stop expr_read c.from_residual-in_err-rest-3.result c.from_residual-in_err-rest-3.ensures.1 (reads (called c.in_ok-rest.ensures.read (called c.in_ok-rest-2.ensures.read (passed c.in_err-rest-3.ensures.read))))

pub returns-in_err-rest-4-clause-read : goal.returns-in_err-rest-4-clause-read
returns-in_err-rest-4-clause-read c = stop expr_read c.from_residual-in_err-rest-4.result c.from_residual-in_err-rest-4.ensures.1 (reads (called c.in_ok-rest.ensures.read (called c.in_ok-rest-2.ensures.read (called c.in_ok-rest-3.ensures.read (passed c.in_err-rest-4.ensures.read)))))

pub returns-in_err-rest-5-clause-read : goal.returns-in_err-rest-5-clause-read
returns-in_err-rest-5-clause-read c = stop expr_read c.from_residual-in_err-rest-5.result c.from_residual-in_err-rest-5.ensures.1 (reads (called c.in_ok-rest.ensures.read (called c.in_ok-rest-2.ensures.read (called c.in_ok-rest-3.ensures.read (called c.in_ok-rest-4.ensures.read (passed c.in_err-rest-5.ensures.read))))))

pub returns-in_err-rest-6-clause-read : goal.returns-in_err-rest-6-clause-read
returns-in_err-rest-6-clause-read c = stop expr_read c.from_residual-in_err-rest-6.result c.from_residual-in_err-rest-6.ensures.1 (reads (called c.in_ok-rest.ensures.read (called c.in_ok-rest-2.ensures.read (called c.in_ok-rest-3.ensures.read (called c.in_ok-rest-4.ensures.read (called c.in_ok-rest-5.ensures.read (passed c.in_err-rest-6.ensures.read)))))))

pub returns-clause-read : goal.returns-clause-read
returns-clause-read c = search (rules, reading) depth 60 fits 4000
