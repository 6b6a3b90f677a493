use Rattle.std.proofs.Common.{rules}
use Rattle.js_grammar.specs.Reads.{stop, reads, called, passed, held, failed, answered}
use Rattle.js_nodes.specs.Views.{label_read}
use Rattle.js_read.proofs.effect.target.Goals as goal

pub returns-then-not-names-clause-read : goal.returns-then-not-names-clause-read
returns-then-not-names-clause-read c = (reads (failed (search rules) (answered (search rules))))

pub returns-in_err-x-clause-read : goal.returns-in_err-x-clause-read
returns-in_err-x-clause-read c = stop label_read c.from_residual.result c.from_residual.ensures.1 (reads (held (search rules) (passed c.in_err-x.ensures.read)))

pub returns-clause-read : goal.returns-clause-read
returns-clause-read c = (reads (held (search rules) (called c.in_ok-x.ensures.read (answered (search rules)))))
