use Rattle.std.proofs.Common.{refl}
use Rattle.js_grammar.specs.Reads.{stop, reads, called, passed, answered}
use Rattle.js_nodes.specs.Handing.{handed}
use Rattle.js_nodes.specs.Views.{rest_read}
use Rattle.js_read.proofs.effect.forever.Goals as goal

pub returns-in_err-rest-clause-read : goal.returns-in_err-rest-clause-read
returns-in_err-rest-clause-read c = stop rest_read c.from_residual.result c.from_residual.ensures.1 (reads (passed c.in_err-rest.ensures.read))

pub returns-in_err-rest-2-clause-read : goal.returns-in_err-rest-2-clause-read
returns-in_err-rest-2-clause-read c = stop rest_read c.from_residual-in_err-rest-2.result c.from_residual-in_err-rest-2.ensures.1 (reads (called c.in_ok-rest.ensures.read (passed c.in_err-rest-2.ensures.read)))

pub returns-in_err-rest-3-clause-read : goal.returns-in_err-rest-3-clause-read
returns-in_err-rest-3-clause-read c = stop rest_read c.from_residual-in_err-rest-3.result c.from_residual-in_err-rest-3.ensures.1 (reads (called c.in_ok-rest.ensures.read (called c.in_ok-rest-2.ensures.read (passed c.in_err-rest-3.ensures.read))))

pub returns-in_err-rest-4-clause-read : goal.returns-in_err-rest-4-clause-read
returns-in_err-rest-4-clause-read c = stop rest_read c.from_residual-in_err-rest-4.result c.from_residual-in_err-rest-4.ensures.1 (reads (called c.in_ok-rest.ensures.read (called c.in_ok-rest-2.ensures.read (called c.in_ok-rest-3.ensures.read (passed c.in_err-rest-4.ensures.read)))))

pub returns-clause-read : goal.returns-clause-read
returns-clause-read c = (reads (called c.in_ok-rest.ensures.read (called c.in_ok-rest-2.ensures.read (called c.in_ok-rest-3.ensures.read (called c.in_ok-rest-4.ensures.read (handed rest_read rest_read c.take_sign-4.result c.take_sign-4.ensures.read (λ x. answered refl)))))))
