use Rattle.std.proofs.Common.{rules, refl}
use Rattle.js_grammar.specs.Reads.{stop, reads, called, passed, held, failed, answered}
use Rattle.js_nodes.specs.Handing.{handed, refused}
use Rattle.js_nodes.specs.Views.{stmt_read}
use Rattle.js_read.proofs.effect.effect_of.Goals as goal

pub returns-in_err-rest-clause-read : goal.returns-in_err-rest-clause-read
returns-in_err-rest-clause-read c = stop stmt_read c.from_residual.result c.from_residual.ensures.1 (reads (held (search rules) (passed c.in_err-rest.ensures.read)))

pub returns-in_err-rest-2-clause-read : goal.returns-in_err-rest-2-clause-read
returns-in_err-rest-2-clause-read c = stop stmt_read c.from_residual-in_err-rest-2.result c.from_residual-in_err-rest-2.ensures.1 (reads (held (search rules) (called c.in_ok-rest.ensures.read (passed c.in_err-rest-2.ensures.read))))

pub returns-in_err-rest-3-clause-read : goal.returns-in_err-rest-3-clause-read
returns-in_err-rest-3-clause-read c = stop stmt_read c.from_residual-in_err-rest-3.result c.from_residual-in_err-rest-3.ensures.1 (reads (held (search rules) (called c.in_ok-rest.ensures.read (called c.in_ok-rest-2.ensures.read (passed c.in_err-rest-3.ensures.read)))))

pub returns-in_err-v-clause-read : goal.returns-in_err-v-clause-read
returns-in_err-v-clause-read c = stop stmt_read c.from_residual-in_err-v.result c.from_residual-in_err-v.ensures.1 (reads (held (search rules) (called c.in_ok-rest.ensures.read (called c.in_ok-rest-2.ensures.read (called c.in_ok-rest-3.ensures.read (passed c.in_err-v.ensures.read))))))

pub returns-in_err-rest-4-clause-read : goal.returns-in_err-rest-4-clause-read
returns-in_err-rest-4-clause-read c = stop stmt_read c.from_residual-in_err-rest-4.result c.from_residual-in_err-rest-4.ensures.1 (reads (held (search rules) (called c.in_ok-rest.ensures.read (called c.in_ok-rest-2.ensures.read (called c.in_ok-rest-3.ensures.read (called c.in_ok-v.ensures.read (passed c.in_err-rest-4.ensures.read)))))))

pub returns-then-is_push-clause-read : goal.returns-then-is_push-clause-read
returns-then-is_push-clause-read c = (reads (held (search rules) (called c.in_ok-rest.ensures.read (called c.in_ok-rest-2.ensures.read (called c.in_ok-rest-3.ensures.read (called c.in_ok-v.ensures.read (called c.in_ok-rest-4.ensures.read (answered (search rules)))))))))

pub returns-then-is_sign-clause-read : goal.returns-then-is_sign-clause-read
returns-then-is_sign-clause-read c = (reads (failed (search rules) (held (search rules) (handed stmt_read stmt_read c.store.result c.store.ensures.read (λ x. answered refl)))))

pub returns-then-not-performs-clause-read : goal.returns-then-not-performs-clause-read
returns-then-not-performs-clause-read c = refused c.syntax.result c.syntax.ensures (reads (failed (search rules) (failed (search rules) (failed (search rules) (answered refl)))))

pub returns-in_err-rest-5-clause-read : goal.returns-in_err-rest-5-clause-read
returns-in_err-rest-5-clause-read c = stop stmt_read c.from_residual-in_err-rest-5.result c.from_residual-in_err-rest-5.ensures.1 (reads (failed (search rules) (failed (search rules) (held (search rules) (passed c.in_err-rest-5.ensures.read)))))

pub returns-clause-read : goal.returns-clause-read
returns-clause-read c = (reads (failed (search rules) (failed (search rules) (held (search rules) (called c.in_ok-rest-5.ensures.read (answered (search rules)))))))
