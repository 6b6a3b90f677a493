use Rattle.std.proofs.Common.{refl, ap, sym, arith, ◌+◌}
use Rattle.std.specs.Prelude.{true, false}
use Rattle.go_core.specs.Opened.{clause_opened}
use Rattle.go_core.specs.declared.statement.CoreClause.{out-CoreClause}
use Rattle.go_core.specs.declared.statement.CoreClauses.{out-CoreClauses}
use Rattle.go_state.specs.TasksSeen.{clauses_from, stmts_from}
use Rattle.go_state.specs.Weight.{stmts_weight, clauses_weight}
use Rattle.go_state.proofs.ListsLemmas.{clause_next, two_less, one_of_two}
use Rattle.go_state.proofs.tasks.open_stmt.open_clause.Goals as goal

pub returns-then-clause-clause-value : goal.returns-then-clause-clause-value
returns-then-clause-clause-value c = λ ts rest. ap (λ cs. clause_opened cs 0 rest) (sym (clause_next ts c.args.clauses.now (out-CoreClauses c.args.clauses.now).items.items c.args.at c.index-clause.result.now true refl (let counted = (out-CoreClauses c.args.clauses.now).items.ok.0 in omega (arith, c.if-at-len.false, c.len.ensures, counted)) c.index-clause.ensures c.if-clause.true))

pub returns-then-clause-clause-smaller : goal.returns-then-clause-clause-smaller
returns-then-clause-clause-smaller c = λ ts. two_less (stmts_weight (stmts_from ts (out-CoreClause c.index-clause.result.now).body 0)) (clauses_weight (clauses_from ts c.args.clauses.now (c.args.at + 1))) (clauses_weight (clauses_from ts c.args.clauses.now c.args.at)) (ap clauses_weight (clause_next ts c.args.clauses.now (out-CoreClauses c.args.clauses.now).items.items c.args.at c.index-clause.result.now true refl (let counted = (out-CoreClauses c.args.clauses.now).items.ok.0 in omega (arith, c.if-at-len.false, c.len.ensures, counted)) c.index-clause.ensures c.if-clause.true))

pub returns-clause-value : goal.returns-clause-value
returns-clause-value c = λ ts rest. ap (λ cs. clause_opened cs 0 rest) (sym (clause_next ts c.args.clauses.now (out-CoreClauses c.args.clauses.now).items.items c.args.at c.index-clause.result.now false refl (let counted = (out-CoreClauses c.args.clauses.now).items.ok.0 in omega (arith, c.if-at-len.false, c.len.ensures, counted)) c.index-clause.ensures c.if-clause.false))

pub returns-clause-smaller : goal.returns-clause-smaller
returns-clause-smaller c = λ ts. one_of_two (stmts_weight (stmts_from ts (out-CoreClause c.index-clause.result.now).body 0)) (clauses_weight (clauses_from ts c.args.clauses.now (c.args.at + 1))) (clauses_weight (clauses_from ts c.args.clauses.now c.args.at)) (ap clauses_weight (clause_next ts c.args.clauses.now (out-CoreClauses c.args.clauses.now).items.items c.args.at c.index-clause.result.now false refl (let counted = (out-CoreClauses c.args.clauses.now).items.ok.0 in omega (arith, c.if-at-len.false, c.len.ensures, counted)) c.index-clause.ensures c.if-clause.false))
