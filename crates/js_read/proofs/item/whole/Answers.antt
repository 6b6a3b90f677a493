use Rattle.std.proofs.Common.{arith, rules}
use Rattle.js_tree.specs.View.{script_view}
use Rattle.js_grammar.specs.Tokens.{places}
use Rattle.js_read.proofs.Whole.{left_over, all_of, treeless}
use Rattle.js_read.proofs.item.whole.Goals as goal

pub returns-then-rest-gt0 : goal.returns-then-rest-gt0
returns-then-rest-gt0 c = left_over c.reads_once.ensures (places c.args.ts.now) c.in-Ok.rest.now (script_view c.in-Ok.s) c.syntax.result c.in-Ok.ensures.read (omega arith) c.syntax.ensures

pub returns-else-rest-gt0 : goal.returns-else-rest-gt0
returns-else-rest-gt0 c = all_of (places c.args.ts.now) c.in-Ok.rest.now (script_view c.in-Ok.s) c.in-Ok.ensures.read (omega arith)

pub returns-in-Err : goal.returns-in-Err
returns-in-Err c = treeless c.reads_once.ensures (places c.args.ts.now) c.in-Err.e c.plain.result c.in-Err.ensures.read c.plain.ensures
