-- Own: clauses of a `switch` so far.
use Rattle.std.specs.Prelude.{◌≡◌, ℕ, List, [], ◌∷◌, Bool, true, Option, Some, None}
use Rattle.go_type.specs.Tree.{Ty}
use Rattle.go_core.specs.CoreTree as core
use Rattle.go_core.specs.declared.statement.CoreClause.{CoreClause}
use Rattle.go_walk.specs.ClauseView.{clause_view}
use Rattle.go_define.specs.CaseView.{HasAll}
use Rattle.go_body.specs.declared.leaf.made.Made.{Made}

-- these clauses, before others
abbrev pub clauses_before : List Ty → List CoreClause → core.Clauses → core.Clauses
clauses_before ts [] after = after
clauses_before ts (c ∷ cs) after = clause_view ts c (clauses_before ts cs after)

-- the number of the first clause that is a `default`
abbrev pub first_default : Option ℕ → Bool → ℕ → Option ℕ
first_default None true number = Some number
first_default d _ number = d

-- no clause was gone through
pub record IsNothing (made : Made) : Type 0 where
  pub tests : made.tests.items ≡ []
  pub clauses : made.clauses.items ≡ []
  pub default_ : made.default ≡ None
  pub seen : HasAll made.seen []
