use Rattle.std.proofs.Common.{subst, refl}
use Rattle.js_tree.specs.View.{expr_view}
use Rattle.js_grammar.specs.Goals as goals
use Rattle.js_grammar.specs.Tokens.{places}
use Rattle.js_grammar.specs.Reads.{Reads, seen, stop, reads, called, passed, answered}
use Rattle.js_nodes.specs.Handing.{handed}
use Rattle.js_nodes.specs.Views.{stmt_read}
use Rattle.js_read.proofs.effect.effect.Goals as goal

pub returns-in_err-e-clause-read : goal.returns-in_err-e-clause-read
returns-in_err-e-clause-read c = stop stmt_read c.from_residual.result c.from_residual.ensures.1 (reads (passed c.in_err-e.ensures.read))

pub returns-clause-read : goal.returns-clause-read
returns-clause-read c = (reads (called c.in_ok-e.ensures.read (handed stmt_read stmt_read c.effect_of.result
    (subst (λ z. Reads (goals.effect_of c.args.d z c.in_ok-e.n (expr_view c.in_ok-e.e)) (places c.in_ok-e.rest.now) (seen stmt_read c.effect_of.result)) c.place-at.ensures c.effect_of.ensures.read) (λ x. answered refl))))
