use Rattle.js_grammar.specs.Tokens.{places}
use Rattle.js_grammar.specs.Reads.{stop, no_memory}
use Rattle.js_nodes.specs.Views.{text_read}
use Rattle.js_grammar.specs.Scan.{scan, bytes_of}
use Rattle.js_grammar.specs.declared.scan.Inside.TheVariants.{Plain}
use Rattle.js_nodes.specs.Handing.{refused}
use Rattle.js_nodes.proofs.Names.{no_string, a_string}
use Rattle.js_nodes.proofs.nodes.literal.take_string.Goals as goal

pub returns-in_default-clause-read : goal.returns-in_default-clause-read
returns-in_default-clause-read c = refused c.syntax.result c.syntax.ensures (no_string c.args.d (places c.args.ts.now) c.in_default.ensures.value)

pub returns-in_err-s-clause-read : goal.returns-in_err-s-clause-read
returns-in_err-s-clause-read c = stop text_read c.from_residual.result c.from_residual.ensures.1 (no_memory c.in_err-s.ensures)

pub returns-clause-read : goal.returns-clause-read
returns-clause-read c =
    a_string c.args.d (places c.args.ts.now) (places c.in-Some.rest.now) c.in_ok-s.s (bytes_of (scan Plain c.in-Some.w.now)) c.in-Some.ensures.value c.in_ok-s.ensures
