use Rattle.std.proofs.Common.{◌≡◌, ◌<◌, ◌≤◌, [], length, map}
use Rattle.js_tree.specs.View.{item_view}
use Rattle.js_grammar.specs.Goals as goals
use Rattle.js_grammar.specs.Steps.{Answer}
use Rattle.js_grammar.specs.Reads.{Reads}
use Rattle.js_grammar.specs.Tokens.{places}
use Rattle.js_read.proofs.item.items.Given as goal

abbrev pub invariant-each : goal.invariant-each
invariant-each l = record {
  same : (r : Answer (goals.items [])) → Reads (goals.items (map item_view l.items.items)) (places l.rest) r → Reads (goals.items []) (places l.ts) r;
}

abbrev pub decreases-each : goal.decreases-each
decreases-each l = length l.rest
