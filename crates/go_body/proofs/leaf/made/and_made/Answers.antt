use Rattle.std.proofs.Common.{◌∙◌, ap, List, map}
use Rattle.go_core.specs.CoreTree as core
use Rattle.go_core.specs.CoreView.{stmt_view, stmts_of}
use Rattle.go_core.specs.declared.statement.CoreClause.{CoreClause}
use Rattle.go_body.specs.Made.{clauses_before}
use Rattle.go_body.proofs.LeafLemmas.{clauses_more}
use Rattle.go_body.proofs.leaf.made.and_made.Goals as goal

pub returns-clause-clauses : goal.returns-clause-clauses
returns-clause-clauses c = λ ts rest.
    let old = c.args.made.now.clauses.items in
    ap (λ (cs : List CoreClause). clauses_before ts cs rest) c.in_ok-push_clause.ensures.items ∙ clauses_more ts old c.clause.result rest
    ∙ (λ j. clauses_before ts old (c.clause.ensures.value ts j rest)) ∙ (λ j. clauses_before ts old (core.clause (c.body.ensures.value ts j) c.args.onward rest))
