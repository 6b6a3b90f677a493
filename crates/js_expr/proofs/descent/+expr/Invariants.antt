use Rattle.std.proofs.Common.{◌+◌, ◌*◌, ◌<◌, ◌≤◌, length, map}
use Rattle.js_tree.specs.View.{expr_view}
use Rattle.js_tree.specs.Scripts.{sign}
use Rattle.js_grammar.specs.Goals as goals
use Rattle.js_grammar.specs.Steps.{Answer}
use Rattle.js_grammar.specs.Reads.{Reads}
use Rattle.js_grammar.specs.Tokens.{places}
use Rattle.js_expr.proofs.descent.+expr.Given as goal

abbrev pub decreases-expr : goal.decreases-expr
decreases-expr l = 12 * length l.ts.now + 7

abbrev pub decreases-operation : goal.decreases-operation
decreases-operation l = 12 * length l.ts.now + 6

abbrev pub decreases-unary : goal.decreases-unary
decreases-unary l = 12 * length l.ts.now + 5

abbrev pub decreases-post : goal.decreases-post
decreases-post l = 12 * length l.ts.now + 4

abbrev pub decreases-atom : goal.decreases-atom
decreases-atom l = 12 * length l.ts.now + 3

abbrev pub decreases-part : goal.decreases-part
decreases-part l = 12 * length l.ts.now + 3

abbrev pub decreases-member : goal.decreases-member
decreases-member l = 12 * length l.ts.now + 2

abbrev pub decreases-substring : goal.decreases-substring
decreases-substring l = 12 * length l.ts.now + 1

abbrev pub decreases-converted : goal.decreases-converted
decreases-converted l = 12 * length l.ts.now + 1

abbrev pub decreases-enclosed : goal.decreases-enclosed
decreases-enclosed l = 12 * length l.ts.now + 8

abbrev pub decreases-listed : goal.decreases-listed
decreases-listed l = 12 * length l.ts.now + 8

abbrev pub invariant-operation-chain : goal.invariant-operation-chain
invariant-operation-chain l = record {
  shorter : length l.rest < length l.fn.ts;
  deep : l.d + l.n ≤ 1001;
  level : l.level ≤ 11;
  same : (r : Answer (goals.operation l.d l.least)) → Reads (goals.chain l.d l.least l.at l.level l.n (expr_view l.left)) (places l.rest) r → Reads (goals.operation l.d l.least) (places l.ts) r;
}

abbrev pub decreases-operation-chain : goal.decreases-operation-chain
decreases-operation-chain l = length l.rest

abbrev pub invariant-post-parts : goal.invariant-post-parts
invariant-post-parts l = record {
  shorter : length l.rest < length l.fn.ts;
  deep : l.d + l.n ≤ 1001;
  same : (r : Answer (goals.post l.d)) → Reads (goals.parts l.d l.at l.n (expr_view l.e)) (places l.rest) r → Reads (goals.post l.d) (places l.ts) r;
}

abbrev pub decreases-post-parts : goal.decreases-post-parts
decreases-post-parts l = length l.rest

abbrev pub invariant-listed-commas : goal.invariant-listed-commas
invariant-listed-commas l = record {
  shorter : length l.rest < length l.fn.ts;
  same : (r : Answer (goals.listed l.d (sign l.close))) → Reads (goals.more l.d (sign l.close) (map expr_view l.items.items)) (places l.rest) r → Reads (goals.listed l.d (sign l.close)) (places l.ts) r;
}

abbrev pub decreases-listed-commas : goal.decreases-listed-commas
decreases-listed-commas l = length l.rest
