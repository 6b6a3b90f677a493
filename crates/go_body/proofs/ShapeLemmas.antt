-- Whether control comes to the end of statements doesn't depend on the trees of their types.
use Rattle.std.proofs.Common.{◌≡◌, ◌∙◌, ℕ, refl, sym, ap, subst, List, [], ◌∷◌, map, Bool, true, false, ◌&&◌, ◌||◌}
use Rattle.std.specs.Prelude.{Option, Some, None, option_map, not}
use Rattle.go_type.specs.Tree.{Ty}
use Rattle.go_core.specs.CoreTree as core
use Rattle.go_core.specs.CoreView.{expr_view, bound_of, stmt_step, case_in, cases_in, clause_in, clauses_in, stmt_in, stmts_in, stmt_form_view, stmt_view, stmts_view, stmts_of, cases_of, clauses_of}
use Rattle.go_core.specs.Terminating.{breaks, any_breaks, clause_breaks, case_breaks, is_missing, has_clause, is_terminating, ends_terminating, all_terminating, cases_terminating}
use Rattle.go_core.specs.declared.node.CoreExpr.{CoreExpr}
use Rattle.go_core.specs.declared.statement.CoreStmtForm.{CoreStmtForm, CoreStmtForm-F, map-CoreStmtForm, roll-CoreStmtForm, fold-roll-CoreStmtForm}
use Rattle.go_core.specs.declared.statement.CoreCase.{CoreCase, CoreCase-F, map-CoreCase, roll-CoreCase, fold-roll-CoreCase}
use Rattle.go_core.specs.declared.statement.CoreCases.{CoreCases, CoreCases-F, map-CoreCases, roll-CoreCases, fold-roll-CoreCases}
use Rattle.go_core.specs.declared.statement.CoreClause.{CoreClause, CoreClause-F, map-CoreClause, roll-CoreClause, fold-roll-CoreClause}
use Rattle.go_core.specs.declared.statement.CoreClauses.{CoreClauses, CoreClauses-F, map-CoreClauses, roll-CoreClauses, fold-roll-CoreClauses}
use Rattle.go_core.specs.declared.statement.CoreStmt.{CoreStmt, CoreStmt-F, map-CoreStmt, roll-CoreStmt, fold-roll-CoreStmt, ind-CoreStmt}
use Rattle.go_core.specs.declared.statement.CoreStmts.{CoreStmts, CoreStmts-F, map-CoreStmts, roll-CoreStmts, fold-roll-CoreStmts}
use Rattle.go_walk.specs.ClauseView.{clause_view, clauses_view, case_view, cases_view}

pub record Same (p q : core.Stmt) : Type 0 where
  pub ends : is_terminating p ≡ is_terminating q
  pub leaves : (l : ℕ) → breaks l p ≡ breaks l q

record SameAll (p q : core.Stmts) : Type 0 where
  pub ends : ends_terminating p ≡ ends_terminating q
  pub leaves : (l : ℕ) → any_breaks l p ≡ any_breaks l q

record SameClauses (p q : core.Clauses) : Type 0 where
  pub ends : all_terminating p ≡ all_terminating q
  pub leaves : (l : ℕ) → clause_breaks l p ≡ clause_breaks l q

record SameCases (p q : core.Cases) : Type 0 where
  pub ends : cases_terminating p ≡ cases_terminating q
  pub leaves : (l : ℕ) → case_breaks l p ≡ case_breaks l q

same_by : (p p1 q q1 : core.Stmt) → p ≡ p1 → q ≡ q1 → Same p1 q1 → Same p q
same_by p p1 q q1 e f h = record { ends = ap is_terminating e ∙ h.ends ∙ ap is_terminating (sym f); leaves = λ l. ap (breaks l) e ∙ h.leaves l ∙ ap (breaks l) (sym f) }

all_by : (p p1 q q1 : core.Stmts) → p ≡ p1 → q ≡ q1 → SameAll p1 q1 → SameAll p q
all_by p p1 q q1 e f h = record { ends = ap ends_terminating e ∙ h.ends ∙ ap ends_terminating (sym f); leaves = λ l. ap (any_breaks l) e ∙ h.leaves l ∙ ap (any_breaks l) (sym f) }

clauses_by : (p p1 q q1 : core.Clauses) → p ≡ p1 → q ≡ q1 → SameClauses p1 q1 → SameClauses p q
clauses_by p p1 q q1 e f h = record { ends = ap all_terminating e ∙ h.ends ∙ ap all_terminating (sym f); leaves = λ l. ap (clause_breaks l) e ∙ h.leaves l ∙ ap (clause_breaks l) (sym f) }

cases_by : (p p1 q q1 : core.Cases) → p ≡ p1 → q ≡ q1 → SameCases p1 q1 → SameCases p q
cases_by p p1 q q1 e f h = record { ends = ap cases_terminating e ∙ h.ends ∙ ap cases_terminating (sym f); leaves = λ l. ap (case_breaks l) e ∙ h.leaves l ∙ ap (case_breaks l) (sym f) }

module _ (ts us : List Ty) where
  abbrev OfForm : CoreStmtForm → Type 0
  OfForm f = Same (stmt_form_view ts f) (stmt_form_view us f)

  abbrev OfCase : CoreCase → Type 0
  OfCase c = (p q : core.Cases) → SameCases p q → SameCases (case_view ts c p) (case_view us c q)

  abbrev OfCases : CoreCases → Type 0
  OfCases cs = SameCases (cases_view ts cs) (cases_view us cs)

  abbrev OfClause : CoreClause → Type 0
  OfClause c = (p q : core.Clauses) → SameClauses p q → SameClauses (clause_view ts c p) (clause_view us c q)

  abbrev OfClauses : CoreClauses → Type 0
  OfClauses cs = SameClauses (clauses_view ts cs) (clauses_view us cs)

  abbrev OfStmt : CoreStmt → Type 0
  OfStmt s = Same (stmt_view ts s) (stmt_view us s)

  abbrev OfStmts : CoreStmts → Type 0
  OfStmts ss = SameAll (stmts_view ts ss) (stmts_view us ss)

  abbrev EForm : Type 0
  EForm = (x : CoreStmtForm) × OfForm x

  abbrev ECase : Type 0
  ECase = (x : CoreCase) × OfCase x

  abbrev ECases : Type 0
  ECases = (x : CoreCases) × OfCases x

  abbrev EClause : Type 0
  EClause = (x : CoreClause) × OfClause x

  abbrev EClauses : Type 0
  EClauses = (x : CoreClauses) × OfClauses x

  abbrev EStmt : Type 0
  EStmt = (x : CoreStmt) × OfStmt x

  abbrev EStmts : Type 0
  EStmts = (x : CoreStmts) × OfStmts x

  -- a form, by what its parts are
  by_roll : (x : CoreStmtForm-F CoreStmtForm CoreCase CoreCases CoreClause CoreClauses CoreStmt CoreStmts) → Same (stmt_step ts (map-CoreStmtForm CoreStmtForm CoreCase CoreCases CoreClause CoreClauses CoreStmt CoreStmts core.Stmt (core.Cases → core.Cases) core.Cases (core.Clauses → core.Clauses) core.Clauses core.Stmt core.Stmts (stmt_form_view ts) (case_view ts) (cases_view ts) (clause_view ts) (clauses_view ts) (stmt_view ts) (stmts_view ts) x)) (stmt_step us (map-CoreStmtForm CoreStmtForm CoreCase CoreCases CoreClause CoreClauses CoreStmt CoreStmts core.Stmt (core.Cases → core.Cases) core.Cases (core.Clauses → core.Clauses) core.Clauses core.Stmt core.Stmts (stmt_form_view us) (case_view us) (cases_view us) (clause_view us) (clauses_view us) (stmt_view us) (stmts_view us) x)) → OfForm (roll-CoreStmtForm x)
  by_roll x h = same_by (stmt_form_view ts (roll-CoreStmtForm x)) _ (stmt_form_view us (roll-CoreStmtForm x)) _ (fold-roll-CoreStmtForm core.Stmt (core.Cases → core.Cases) core.Cases (core.Clauses → core.Clauses) core.Clauses core.Stmt core.Stmts (stmt_step ts) (case_in ts) (cases_in ts) (clause_in ts) (clauses_in ts) (stmt_in ts) (stmts_in ts) x) (fold-roll-CoreStmtForm core.Stmt (core.Cases → core.Cases) core.Cases (core.Clauses → core.Clauses) core.Clauses core.Stmt core.Stmts (stmt_step us) (case_in us) (cases_in us) (clause_in us) (clauses_in us) (stmt_in us) (stmts_in us) x) h

  missing_same : (c : Option CoreExpr) → is_missing (bound_of (option_map (expr_view ts) c)) ≡ is_missing (bound_of (option_map (expr_view us) c))
  missing_same None = refl
  missing_same (Some e) = refl

  form_at : (y : CoreStmtForm-F EForm ECase ECases EClause EClauses EStmt EStmts) → OfForm (roll-CoreStmtForm (map-CoreStmtForm EForm ECase ECases EClause EClauses EStmt EStmts CoreStmtForm CoreCase CoreCases CoreClause CoreClauses CoreStmt CoreStmts (λ e. e.0) (λ e. e.0) (λ e. e.0) (λ e. e.0) (λ e. e.0) (λ e. e.0) (λ e. e.0) y))
  form_at (CoreStmtForm-F.Seq ss) = by_roll (CoreStmtForm-F.Seq ss.0) (record { ends = ss.1.ends; leaves = λ l. ss.1.leaves l })
  form_at (CoreStmtForm-F.Perform e n) = by_roll (CoreStmtForm-F.Perform e n) (record { ends = refl; leaves = λ l. refl })
  form_at (CoreStmtForm-F.Declare v) = by_roll (CoreStmtForm-F.Declare v) (record { ends = refl; leaves = λ l. refl })
  form_at (CoreStmtForm-F.Store targets es) = by_roll (CoreStmtForm-F.Store targets es) (record { ends = refl; leaves = λ l. refl })
  form_at (CoreStmtForm-F.MapDelete u e key) = by_roll (CoreStmtForm-F.MapDelete u e key) (record { ends = refl; leaves = λ l. refl })
  form_at (CoreStmtForm-F.If e a b) = by_roll (CoreStmtForm-F.If e a.0 b.0) (record { ends = λ j. a.1.ends j && b.1.ends j; leaves = λ l j. a.1.leaves l j || b.1.leaves l j })
  form_at (CoreStmtForm-F.Loop label c body post) = by_roll (CoreStmtForm-F.Loop label c body.0 post.0) (record { ends = λ j. missing_same c j && not (body.1.leaves label.0 j); leaves = λ l j. body.1.leaves l j || post.1.leaves l j })
  form_at (CoreStmtForm-F.SwitchOn label tests cs d) = by_roll (CoreStmtForm-F.SwitchOn label tests cs.0 d) (record { ends = λ j. has_clause d && cs.1.ends j && not (cs.1.leaves label.0 j); leaves = λ l. cs.1.leaves l })
  form_at (CoreStmtForm-F.RangeNext label from e k v body) = by_roll (CoreStmtForm-F.RangeNext label from e k v body.0) (record { ends = refl; leaves = λ l. body.1.leaves l })
  form_at (CoreStmtForm-F.Labeled label body) = by_roll (CoreStmtForm-F.Labeled label body.0) (record { ends = λ j. body.1.ends j && not (body.1.leaves label.0 j); leaves = λ l. body.1.leaves l })
  form_at (CoreStmtForm-F.Branch kind label) = by_roll (CoreStmtForm-F.Branch kind label) (record { ends = refl; leaves = λ l. refl })
  form_at (CoreStmtForm-F.Send u e v) = by_roll (CoreStmtForm-F.Send u e v) (record { ends = refl; leaves = λ l. refl })
  form_at (CoreStmtForm-F.Close e) = by_roll (CoreStmtForm-F.Close e) (record { ends = refl; leaves = λ l. refl })
  form_at (CoreStmtForm-F.SelectStep label cs false body) = by_roll (CoreStmtForm-F.SelectStep label cs.0 false body.0) (record { ends = λ j. cs.1.ends j && not (cs.1.leaves label.0 j); leaves = λ l j. cs.1.leaves l j || body.1.leaves l j })
  form_at (CoreStmtForm-F.SelectStep label cs true body) = by_roll (CoreStmtForm-F.SelectStep label cs.0 true body.0) (record { ends = λ j. cs.1.ends j && body.1.ends j && not (cs.1.leaves label.0 j || body.1.leaves label.0 j); leaves = λ l j. cs.1.leaves l j || body.1.leaves l j })
  form_at (CoreStmtForm-F.GateTake e) = by_roll (CoreStmtForm-F.GateTake e) (record { ends = refl; leaves = λ l. refl })
  form_at (CoreStmtForm-F.GateAwait e) = by_roll (CoreStmtForm-F.GateAwait e) (record { ends = refl; leaves = λ l. refl })
  form_at CoreStmtForm-F.Yield = by_roll CoreStmtForm-F.Yield (record { ends = refl; leaves = λ l. refl })
  form_at (CoreStmtForm-F.GoCall callee es) = by_roll (CoreStmtForm-F.GoCall callee es) (record { ends = refl; leaves = λ l. refl })
  form_at (CoreStmtForm-F.DeferCall callee es) = by_roll (CoreStmtForm-F.DeferCall callee es) (record { ends = refl; leaves = λ l. refl })
  form_at (CoreStmtForm-F.Return es) = by_roll (CoreStmtForm-F.Return es) (record { ends = refl; leaves = λ l. refl })
  form_at (CoreStmtForm-F.Panic e) = by_roll (CoreStmtForm-F.Panic e) (record { ends = refl; leaves = λ l. refl })
  form_at (CoreStmtForm-F.Print es ends_line) = by_roll (CoreStmtForm-F.Print es ends_line) (record { ends = refl; leaves = λ l. refl })
  form_at (CoreStmtForm-F.Exit e) = by_roll (CoreStmtForm-F.Exit e) (record { ends = refl; leaves = λ l. refl })
  form_at (CoreStmtForm-F.Fatal e) = by_roll (CoreStmtForm-F.Fatal e) (record { ends = refl; leaves = λ l. refl })

  case_at : (y : CoreCase-F EForm ECase ECases EClause EClauses EStmt EStmts) → OfCase (roll-CoreCase (map-CoreCase EForm ECase ECases EClause EClauses EStmt EStmts CoreStmtForm CoreCase CoreCases CoreClause CoreClauses CoreStmt CoreStmts (λ e. e.0) (λ e. e.0) (λ e. e.0) (λ e. e.0) (λ e. e.0) (λ e. e.0) (λ e. e.0) y))
  case_at y p q h =
      let x = (map-CoreCase EForm ECase ECases EClause EClauses EStmt EStmts CoreStmtForm CoreCase CoreCases CoreClause CoreClauses CoreStmt CoreStmts (λ e. e.0) (λ e. e.0) (λ e. e.0) (λ e. e.0) (λ e. e.0) (λ e. e.0) (λ e. e.0) y) in
      cases_by (case_view ts (roll-CoreCase x) p) _ (case_view us (roll-CoreCase x) q) _ (λ j. (fold-roll-CoreCase core.Stmt (core.Cases → core.Cases) core.Cases (core.Clauses → core.Clauses) core.Clauses core.Stmt core.Stmts (stmt_step ts) (case_in ts) (cases_in ts) (clause_in ts) (clauses_in ts) (stmt_in ts) (stmts_in ts) x) j p) (λ j. (fold-roll-CoreCase core.Stmt (core.Cases → core.Cases) core.Cases (core.Clauses → core.Clauses) core.Clauses core.Stmt core.Stmts (stmt_step us) (case_in us) (cases_in us) (clause_in us) (clauses_in us) (stmt_in us) (stmts_in us) x) j q)
      (record { ends = λ j. y.body.1.ends j && h.ends j; leaves = λ l j. y.body.1.leaves l j || h.leaves l j })

  cases_all : (es : List ECase) → SameCases (cases_of (map (case_view ts) (map (λ e. e.0) es))) (cases_of (map (case_view us) (map (λ e. e.0) es)))
  cases_all [] = record { ends = refl; leaves = λ l. refl }
  cases_all (e ∷ es) = e.1 _ _ (cases_all es)

  cases_at : (y : CoreCases-F EForm ECase ECases EClause EClauses EStmt EStmts) → OfCases (roll-CoreCases (map-CoreCases EForm ECase ECases EClause EClauses EStmt EStmts CoreStmtForm CoreCase CoreCases CoreClause CoreClauses CoreStmt CoreStmts (λ e. e.0) (λ e. e.0) (λ e. e.0) (λ e. e.0) (λ e. e.0) (λ e. e.0) (λ e. e.0) y))
  cases_at y =
      let x = (map-CoreCases EForm ECase ECases EClause EClauses EStmt EStmts CoreStmtForm CoreCase CoreCases CoreClause CoreClauses CoreStmt CoreStmts (λ e. e.0) (λ e. e.0) (λ e. e.0) (λ e. e.0) (λ e. e.0) (λ e. e.0) (λ e. e.0) y) in
      cases_by (cases_view ts (roll-CoreCases x)) _ (cases_view us (roll-CoreCases x)) _ (fold-roll-CoreCases core.Stmt (core.Cases → core.Cases) core.Cases (core.Clauses → core.Clauses) core.Clauses core.Stmt core.Stmts (stmt_step ts) (case_in ts) (cases_in ts) (clause_in ts) (clauses_in ts) (stmt_in ts) (stmts_in ts) x) (fold-roll-CoreCases core.Stmt (core.Cases → core.Cases) core.Cases (core.Clauses → core.Clauses) core.Clauses core.Stmt core.Stmts (stmt_step us) (case_in us) (cases_in us) (clause_in us) (clauses_in us) (stmt_in us) (stmts_in us) x) (cases_all y.items.items)

  clause_at : (y : CoreClause-F EForm ECase ECases EClause EClauses EStmt EStmts) → OfClause (roll-CoreClause (map-CoreClause EForm ECase ECases EClause EClauses EStmt EStmts CoreStmtForm CoreCase CoreCases CoreClause CoreClauses CoreStmt CoreStmts (λ e. e.0) (λ e. e.0) (λ e. e.0) (λ e. e.0) (λ e. e.0) (λ e. e.0) (λ e. e.0) y))
  clause_at y p q h =
      let x = (map-CoreClause EForm ECase ECases EClause EClauses EStmt EStmts CoreStmtForm CoreCase CoreCases CoreClause CoreClauses CoreStmt CoreStmts (λ e. e.0) (λ e. e.0) (λ e. e.0) (λ e. e.0) (λ e. e.0) (λ e. e.0) (λ e. e.0) y) in
      clauses_by (clause_view ts (roll-CoreClause x) p) _ (clause_view us (roll-CoreClause x) q) _ (λ j. (fold-roll-CoreClause core.Stmt (core.Cases → core.Cases) core.Cases (core.Clauses → core.Clauses) core.Clauses core.Stmt core.Stmts (stmt_step ts) (case_in ts) (cases_in ts) (clause_in ts) (clauses_in ts) (stmt_in ts) (stmts_in ts) x) j p) (λ j. (fold-roll-CoreClause core.Stmt (core.Cases → core.Cases) core.Cases (core.Clauses → core.Clauses) core.Clauses core.Stmt core.Stmts (stmt_step us) (case_in us) (cases_in us) (clause_in us) (clauses_in us) (stmt_in us) (stmts_in us) x) j q)
      (record { ends = λ j. (y.falls_through || y.body.1.ends j) && h.ends j; leaves = λ l j. y.body.1.leaves l j || h.leaves l j })

  clauses_all : (es : List EClause) → SameClauses (clauses_of (map (clause_view ts) (map (λ e. e.0) es))) (clauses_of (map (clause_view us) (map (λ e. e.0) es)))
  clauses_all [] = record { ends = refl; leaves = λ l. refl }
  clauses_all (e ∷ es) = e.1 _ _ (clauses_all es)

  clauses_at : (y : CoreClauses-F EForm ECase ECases EClause EClauses EStmt EStmts) → OfClauses (roll-CoreClauses (map-CoreClauses EForm ECase ECases EClause EClauses EStmt EStmts CoreStmtForm CoreCase CoreCases CoreClause CoreClauses CoreStmt CoreStmts (λ e. e.0) (λ e. e.0) (λ e. e.0) (λ e. e.0) (λ e. e.0) (λ e. e.0) (λ e. e.0) y))
  clauses_at y =
      let x = (map-CoreClauses EForm ECase ECases EClause EClauses EStmt EStmts CoreStmtForm CoreCase CoreCases CoreClause CoreClauses CoreStmt CoreStmts (λ e. e.0) (λ e. e.0) (λ e. e.0) (λ e. e.0) (λ e. e.0) (λ e. e.0) (λ e. e.0) y) in
      clauses_by (clauses_view ts (roll-CoreClauses x)) _ (clauses_view us (roll-CoreClauses x)) _ (fold-roll-CoreClauses core.Stmt (core.Cases → core.Cases) core.Cases (core.Clauses → core.Clauses) core.Clauses core.Stmt core.Stmts (stmt_step ts) (case_in ts) (cases_in ts) (clause_in ts) (clauses_in ts) (stmt_in ts) (stmts_in ts) x) (fold-roll-CoreClauses core.Stmt (core.Cases → core.Cases) core.Cases (core.Clauses → core.Clauses) core.Clauses core.Stmt core.Stmts (stmt_step us) (case_in us) (cases_in us) (clause_in us) (clauses_in us) (stmt_in us) (stmts_in us) x) (clauses_all y.items.items)

  stmt_at : (y : CoreStmt-F EForm ECase ECases EClause EClauses EStmt EStmts) → OfStmt (roll-CoreStmt (map-CoreStmt EForm ECase ECases EClause EClauses EStmt EStmts CoreStmtForm CoreCase CoreCases CoreClause CoreClauses CoreStmt CoreStmts (λ e. e.0) (λ e. e.0) (λ e. e.0) (λ e. e.0) (λ e. e.0) (λ e. e.0) (λ e. e.0) y))
  stmt_at y =
      let x = (map-CoreStmt EForm ECase ECases EClause EClauses EStmt EStmts CoreStmtForm CoreCase CoreCases CoreClause CoreClauses CoreStmt CoreStmts (λ e. e.0) (λ e. e.0) (λ e. e.0) (λ e. e.0) (λ e. e.0) (λ e. e.0) (λ e. e.0) y) in
      same_by (stmt_view ts (roll-CoreStmt x)) _ (stmt_view us (roll-CoreStmt x)) _ (fold-roll-CoreStmt core.Stmt (core.Cases → core.Cases) core.Cases (core.Clauses → core.Clauses) core.Clauses core.Stmt core.Stmts (stmt_step ts) (case_in ts) (cases_in ts) (clause_in ts) (clauses_in ts) (stmt_in ts) (stmts_in ts) x) (fold-roll-CoreStmt core.Stmt (core.Cases → core.Cases) core.Cases (core.Clauses → core.Clauses) core.Clauses core.Stmt core.Stmts (stmt_step us) (case_in us) (cases_in us) (clause_in us) (clauses_in us) (stmt_in us) (stmts_in us) x) y.form.value.1

  stmts_all : (es : List EStmt) → SameAll (stmts_of (map (stmt_view ts) (map (λ e. e.0) es))) (stmts_of (map (stmt_view us) (map (λ e. e.0) es)))
  stmts_all [] = record { ends = refl; leaves = λ l. refl }
  stmts_all (e ∷ []) = record { ends = e.1.ends; leaves = λ l j. e.1.leaves l j || false }
  stmts_all (e ∷ d ∷ es) = let r = stmts_all (d ∷ es) in record { ends = r.ends; leaves = λ l j. e.1.leaves l j || r.leaves l j }

  stmts_at : (y : CoreStmts-F EForm ECase ECases EClause EClauses EStmt EStmts) → OfStmts (roll-CoreStmts (map-CoreStmts EForm ECase ECases EClause EClauses EStmt EStmts CoreStmtForm CoreCase CoreCases CoreClause CoreClauses CoreStmt CoreStmts (λ e. e.0) (λ e. e.0) (λ e. e.0) (λ e. e.0) (λ e. e.0) (λ e. e.0) (λ e. e.0) y))
  stmts_at y =
      let x = (map-CoreStmts EForm ECase ECases EClause EClauses EStmt EStmts CoreStmtForm CoreCase CoreCases CoreClause CoreClauses CoreStmt CoreStmts (λ e. e.0) (λ e. e.0) (λ e. e.0) (λ e. e.0) (λ e. e.0) (λ e. e.0) (λ e. e.0) y) in
      all_by (stmts_view ts (roll-CoreStmts x)) _ (stmts_view us (roll-CoreStmts x)) _ (fold-roll-CoreStmts core.Stmt (core.Cases → core.Cases) core.Cases (core.Clauses → core.Clauses) core.Clauses core.Stmt core.Stmts (stmt_step ts) (case_in ts) (cases_in ts) (clause_in ts) (clauses_in ts) (stmt_in ts) (stmts_in ts) x) (fold-roll-CoreStmts core.Stmt (core.Cases → core.Cases) core.Cases (core.Clauses → core.Clauses) core.Clauses core.Stmt core.Stmts (stmt_step us) (case_in us) (cases_in us) (clause_in us) (clauses_in us) (stmt_in us) (stmts_in us) x) (stmts_all y.items.items)

  pub shape_same : (s : CoreStmt) → Same (stmt_view ts s) (stmt_view us s)
  shape_same =
      ind-CoreStmt OfForm OfCase OfCases OfClause OfClauses OfStmt OfStmts (λ x y is. subst (λ z. OfForm (roll-CoreStmtForm z)) is (form_at y)) (λ x y is. subst (λ z. OfCase (roll-CoreCase z)) is (case_at y)) (λ x y is. subst (λ z. OfCases (roll-CoreCases z)) is (cases_at y))
      (λ x y is. subst (λ z. OfClause (roll-CoreClause z)) is (clause_at y)) (λ x y is. subst (λ z. OfClauses (roll-CoreClauses z)) is (clauses_at y)) (λ x y is. subst (λ z. OfStmt (roll-CoreStmt z)) is (stmt_at y)) (λ x y is. subst (λ z. OfStmts (roll-CoreStmts z)) is (stmts_at y))

pub ends_same : (ts us : List Ty) (xs : List CoreStmt) → ends_terminating (stmts_of (map (stmt_view ts) xs)) ≡ ends_terminating (stmts_of (map (stmt_view us) xs))
ends_same ts us [] = refl
ends_same ts us (x ∷ []) = (shape_same ts us x).ends
ends_same ts us (x ∷ y ∷ xs) = ends_same ts us (y ∷ xs)
