use Rattle.std.proofs.Common.{◌≡◌, ◌+◌, ◌*◌, ◌<◌, ◌≤◌, [], length, map}
use Rattle.js_tree.specs.View.{stmt_view, case_view}
use Rattle.js_grammar.specs.Goals as goals
use Rattle.js_grammar.specs.Steps.{Answer}
use Rattle.js_grammar.specs.Reads.{Reads}
use Rattle.js_grammar.specs.Tokens.{places}
use Rattle.js_read.proofs.stmt.+stmt.Given as goal

abbrev pub decreases-stmts : goal.decreases-stmts
decreases-stmts l = 12 * length l.ts.now + 5

abbrev pub decreases-stmt : goal.decreases-stmt
decreases-stmt l = 12 * length l.ts.now + 4

abbrev pub decreases-named : goal.decreases-named
decreases-named l = 12 * length l.ts.now + 3

abbrev pub decreases-branch : goal.decreases-branch
decreases-branch l = 12 * length l.ts.now + 3

abbrev pub decreases-attempt : goal.decreases-attempt
decreases-attempt l = 12 * length l.ts.now + 3

abbrev pub decreases-turning : goal.decreases-turning
decreases-turning l = 12 * length l.ts.now + 2

abbrev pub decreases-block : goal.decreases-block
decreases-block l = 12 * length l.ts.now + 1

abbrev pub decreases-otherwise : goal.decreases-otherwise
decreases-otherwise l = 12 * length l.ts.now + 1

abbrev pub decreases-clauses : goal.decreases-clauses
decreases-clauses l = 12 * length l.ts.now + 4

abbrev pub decreases-clause : goal.decreases-clause
decreases-clause l = 12 * length l.ts.now + 3

abbrev pub invariant-stmts-each : goal.invariant-stmts-each
invariant-stmts-each l = record {
  shorter : length l.rest ≤ length l.fn.ts;
  same : (r : Answer (goals.statements l.d [])) → Reads (goals.statements l.d (map stmt_view l.items.items)) (places l.rest) r → Reads (goals.statements l.d []) (places l.ts) r;
}

abbrev pub decreases-stmts-each : goal.decreases-stmts-each
decreases-stmts-each l = length l.rest

abbrev pub invariant-clauses-clauses : goal.invariant-clauses-clauses
invariant-clauses-clauses l = record {
  shorter : length l.rest ≤ length l.fn.ts;
  same : (r : Answer (goals.clauses l.d [])) → Reads (goals.clauses l.d (map case_view l.items.items)) (places l.rest) r → Reads (goals.clauses l.d []) (places l.ts) r;
}

abbrev pub decreases-clauses-clauses : goal.decreases-clauses-clauses
decreases-clauses-clauses l = length l.rest

abbrev pub decreases-ended : goal.decreases-ended
decreases-ended l = 12 * length l.ts.now + 3
