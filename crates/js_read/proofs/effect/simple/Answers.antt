use Rattle.std.proofs.Common.{rules, refl}
use Rattle.js_grammar.specs.Reads.{stop, reads, called, passed, held, failed, answered}
use Rattle.js_nodes.specs.Handing.{handed}
use Rattle.js_nodes.specs.Views.{stmt_read}
use Rattle.js_read.proofs.effect.simple.Goals as goal

pub returns-in_err-x-clause-read : goal.returns-in_err-x-clause-read
returns-in_err-x-clause-read c = stop stmt_read c.from_residual.result c.from_residual.ensures.1 (reads (held (search rules) (passed c.in_err-x.ensures.read)))

pub returns-then-is_word-clause-read : goal.returns-then-is_word-clause-read
returns-then-is_word-clause-read c = (reads (held (search rules) (called c.in_ok-x.ensures.read (answered (search rules)))))

pub returns-then-is_word-2-clause-read : goal.returns-then-is_word-2-clause-read
returns-then-is_word-2-clause-read c = (reads (failed (search rules) (held (search rules) (handed stmt_read stmt_read c.remove.result c.remove.ensures.read (λ x. answered refl)))))

pub returns-then-is_word-3-clause-read : goal.returns-then-is_word-3-clause-read
returns-then-is_word-3-clause-read c = (reads (failed (search rules) (failed (search rules) (held (search rules) (handed stmt_read stmt_read c.returned.result c.returned.ensures.read (λ x. answered refl))))))

pub returns-clause-read : goal.returns-clause-read
returns-clause-read c = (reads (failed (search rules) (failed (search rules) (failed (search rules) (handed stmt_read stmt_read c.jump.result c.jump.ensures.read (λ x. answered refl))))))
