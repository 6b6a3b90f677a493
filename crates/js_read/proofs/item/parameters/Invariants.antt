use Rattle.std.proofs.Common.{◌≡◌, ◌<◌, ◌≤◌, [], length, map}
use Rattle.js_tree.specs.View.{item_view}
use Rattle.js_grammar.specs.Goals as goals
use Rattle.js_grammar.specs.Steps.{Answer}
use Rattle.js_grammar.specs.Reads.{Reads}
use Rattle.js_grammar.specs.Tokens.{places}
use Rattle.js_read.proofs.item.parameters.Given as goal

abbrev pub invariant-commas : goal.invariant-commas
invariant-commas l = record {
  shorter : length l.rest < length l.fn.ts;
  same : (r : Answer goals.parameters) → Reads (goals.more_parameters l.names.items) (places l.rest) r → Reads goals.parameters (places l.ts) r;
}

abbrev pub decreases-commas : goal.decreases-commas
decreases-commas l = length l.rest
