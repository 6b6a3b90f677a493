use Rattle.js_grammar.specs.Tokens.{places}
use Rattle.js_grammar.specs.Reads.{stop, no_memory}
use Rattle.js_nodes.specs.Views.{text_read}
use Rattle.js_nodes.specs.Handing.{refused}
use Rattle.js_nodes.proofs.Names.{no_name, a_name}
use Rattle.js_nodes.proofs.nodes.literal.take_name.Goals as goal

pub returns-in_default-clause-read : goal.returns-in_default-clause-read
returns-in_default-clause-read c = refused c.syntax.result c.syntax.ensures (no_name c.args.d (places c.args.ts.now) c.in_default.ensures.value)

pub returns-in_err-x-clause-read : goal.returns-in_err-x-clause-read
returns-in_err-x-clause-read c = stop text_read c.from_residual.result c.from_residual.ensures.1 (no_memory c.in_err-x.ensures)

pub returns-clause-read : goal.returns-clause-read
returns-clause-read c = a_name c.args.d (places c.args.ts.now) (places c.in-Some.rest.now) c.in_ok-x.x c.in-Some.w.now c.in-Some.ensures.value c.in_ok-x.ensures
