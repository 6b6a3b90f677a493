-- The trees of statements, over the trees of their parts, and what a statement of a form stands for.
use Rattle.std.specs.Prelude.{◌≡◌, List, map, ℕ, Option, option_map, Result, Ok, Err, IfOk}
use Rattle.std.proofs.Common.{◌∙◌}
use Rattle.go_type.specs.Tree.{Ty}
use Rattle.go_core.specs.CoreTree as core
use Rattle.go_core.specs.CoreView.{expr_view, exprs_view, bound_of, place_form_view, stmt_view, stmt_form_view, stmts_view, tests_of, target_view, var_of, branch_of}
use Rattle.go_core.specs.declared.node.CoreExpr.{CoreExpr}
use Rattle.go_core.specs.declared.node.CoreExprs.{CoreExprs}
use Rattle.go_core.specs.declared.node.Var.{Var}
use Rattle.go_core.specs.declared.node.PlaceForm.{fold-roll-PlaceForm}
use Rattle.go_core.specs.declared.node.PlaceForm.TheVariants as at
use Rattle.go_core.specs.declared.statement.BranchKind.{BranchKind}
use Rattle.go_core.specs.declared.statement.CoreStmt.{CoreStmt}
use Rattle.go_core.specs.declared.statement.CoreStmts.{CoreStmts}
use Rattle.go_core.specs.declared.statement.CoreClauses.{CoreClauses}
use Rattle.go_core.specs.declared.statement.CoreStmtForm.{CoreStmtForm, fold-roll-CoreStmtForm}
use Rattle.go_core.specs.declared.statement.CoreStmtForm.TheVariants as statement
use Rattle.go_core.specs.declared.statement.CoreTests.{CoreTests}
use Rattle.go_core.specs.declared.statement.Label.{Label}
use Rattle.go_core.specs.declared.statement.Targets.{Targets}
use Rattle.go_walk.specs.ClauseView.{clauses_view}

pub stmt_made : {E : Type 0} (r : Result CoreStmt E) (f : CoreStmtForm) (x : List Ty → core.Stmt) → ((ts : List Ty) → stmt_form_view ts f ≡ x ts)
    → IfOk r (λ s. (ts : List Ty) → stmt_view ts s ≡ stmt_form_view ts f) → IfOk r (λ s. (ts : List Ty) → stmt_view ts s ≡ x ts)
stmt_made (Ok s) f x h k = λ ts. k ts ∙ h ts
stmt_made (Err e) f x h k = k

pub local_view : (ts : List Ty) (v : _) → place_form_view ts (at.Local v) ≡ core.local_ v.0
local_view ts v = rw (← at.rolls-Local, fold-roll-PlaceForm)

pub global_view : (ts : List Ty) (n : _) → place_form_view ts (at.Global n) ≡ core.global n.0
global_view ts n = rw (← at.rolls-Global, fold-roll-PlaceForm)

pub declare_view : (ts : List Ty) (v : Var) → stmt_form_view ts (statement.Declare v) ≡ core.declare (var_of ts v)
declare_view ts v = rw (← statement.rolls-Declare, fold-roll-CoreStmtForm)

pub perform_view : (ts : List Ty) (e : CoreExpr) (n : ℕ) → stmt_form_view ts (statement.Perform e n) ≡ core.perform (expr_view ts e) n
perform_view ts e n = rw (← statement.rolls-Perform, fold-roll-CoreStmtForm)

pub branch_view : (ts : List Ty) (k : BranchKind) (l : Label) → stmt_form_view ts (statement.Branch k l) ≡ core.branch (branch_of k) l.0
branch_view ts k l = rw (← statement.rolls-Branch, fold-roll-CoreStmtForm)

pub return_view : (ts : List Ty) (es : CoreExprs) → stmt_form_view ts (statement.Return es) ≡ core.return_ (exprs_view ts es)
return_view ts es = rw (← statement.rolls-Return, fold-roll-CoreStmtForm)

pub store_view : (ts : List Ty) (xs : Targets) (es : CoreExprs) → stmt_form_view ts (statement.Store xs es) ≡ core.store (map (target_view ts) xs.items.items) (exprs_view ts es)
store_view ts xs es = rw (← statement.rolls-Store, fold-roll-CoreStmtForm)

pub if_view : (ts : List Ty) (e : CoreExpr) (a b : CoreStmts) → stmt_form_view ts (statement.If e a b) ≡ core.if_ (expr_view ts e) (stmts_view ts a) (stmts_view ts b)
if_view ts e a b = rw (← statement.rolls-If, fold-roll-CoreStmtForm)

pub loop_view : (ts : List Ty) (l : Label) (e : Option CoreExpr) (a b : CoreStmts)
    → stmt_form_view ts (statement.Loop l e a b) ≡ core.loop l.0 (bound_of (option_map (expr_view ts) e)) (stmts_view ts a) (stmts_view ts b)
loop_view ts l e a b = rw (← statement.rolls-Loop, fold-roll-CoreStmtForm)

pub switch_view : (ts : List Ty) (l : Label) (xs : CoreTests) (cs : CoreClauses) (d : Option ℕ)
    → stmt_form_view ts (statement.SwitchOn l xs cs d) ≡ core.switch_on l.0 (tests_of ts xs.items.items) (clauses_view ts cs) d
switch_view ts l xs cs d = rw (← statement.rolls-SwitchOn, fold-roll-CoreStmtForm)
