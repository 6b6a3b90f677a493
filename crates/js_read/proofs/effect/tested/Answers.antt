use Rattle.std.proofs.Common.{refl}
use Rattle.js_grammar.specs.Reads.{stop, reads, called, passed, answered}
use Rattle.js_nodes.specs.Handing.{handed}
use Rattle.js_nodes.specs.Views.{expr_read}
use Rattle.js_read.proofs.effect.tested.Goals as goal

pub returns-in_err-rest-clause-read : goal.returns-in_err-rest-clause-read
returns-in_err-rest-clause-read c = stop expr_read c.from_residual.result c.from_residual.ensures.1 (reads (passed c.in_err-rest.ensures.read))

pub returns-in_err-rest-2-clause-read : goal.returns-in_err-rest-2-clause-read
returns-in_err-rest-2-clause-read c = stop expr_read c.from_residual-in_err-rest-2.result c.from_residual-in_err-rest-2.ensures.1 (reads (called c.in_ok-rest.ensures.read (passed c.in_err-rest-2.ensures.read)))

pub returns-clause-read : goal.returns-clause-read
returns-clause-read c = (reads (called c.in_ok-rest.ensures.read (called c.in_ok-rest-2.ensures.read (handed expr_read expr_read c.enclosed.result c.enclosed.ensures.read (λ x. answered refl)))))
