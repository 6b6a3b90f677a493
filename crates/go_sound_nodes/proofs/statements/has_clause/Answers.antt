use Rattle.std.proofs.Common.{arith, map, rules, subst, sym}
use Rattle.std.proofs.lemmas.Bool.{ltb-true}
use Rattle.std.specs.Prelude.{◌≡◌, ◌<◌, ℕ, zero, suc, List, [], ◌∷◌, length}
use Rattle.go_type.specs.Tree.{Ty}
use Rattle.go_core.specs.CoreTree.{Clauses, clause}
use Rattle.go_core.specs.CoreView.{clauses_of, stmts_view}
use Rattle.go_core.specs.Sound.{HasClause}
use Rattle.go_core.specs.declared.statement.CoreClause.{CoreClause, out-CoreClause, fold_out-CoreClause}
use Rattle.go_core.specs.declared.statement.CoreClauses.{CoreClauses, out-CoreClauses, fold_out-CoreClauses}
use Rattle.go_sound_nodes.specs.ListView.{clause_view, clauses_view}
use Rattle.go_sound_nodes.proofs.statements.has_clause.Goals as goal

clause_whole : (ts : List Ty) (c : CoreClause) (rest : Clauses) → clause_view ts c rest ≡ clause (stmts_view ts (out-CoreClause c).body) (out-CoreClause c).falls_through rest
clause_whole ts c rest = search (rules, fold_out-CoreClause)

clauses_whole : (ts : List Ty) (list : CoreClauses) → clauses_view ts list ≡ clauses_of (map (clause_view ts) (out-CoreClauses list).items.items)
clauses_whole ts list = search (rules, fold_out-CoreClauses)

-- a list has a clause at each place before its end
has_below : (ts : List Ty) (cs : List CoreClause) (n : ℕ) → n < length cs → HasClause (clauses_of (map (clause_view ts) cs)) n
has_below ts [] n h = absurd (omega (arith, h))
has_below ts (c ∷ cs) zero h = subst (λ (k : Clauses). HasClause k 0) (sym (clause_whole ts c (clauses_of (map (clause_view ts) cs)))) tt
has_below ts (c ∷ cs) (suc n) h = subst (λ (k : Clauses). HasClause k (suc n)) (sym (clause_whole ts c (clauses_of (map (clause_view ts) cs)))) (has_below ts cs n (omega (arith, h)))

has_number : (ts : List Ty) (list : CoreClauses) (n : ℕ) → n < length (out-CoreClauses list).items.items → HasClause (clauses_view ts list) n
has_number ts list n h = subst (λ (k : Clauses). HasClause k n) (sym (clauses_whole ts list)) (has_below ts (out-CoreClauses list).items.items n h)

pub returns : goal.returns
returns c = record { is = λ h ts. has_number ts c.args.list.now c.args.number (let x = c.len.ensures in let y = (out-CoreClauses c.args.list.now).items.ok.0 in omega (arith, ltb-true _ _ h, x, y)) }
