-- A node of a form stands for the tree of that form.
use Rattle.std.proofs.Common.{arith, ◌≡◌, ◌≤◌, List, [], ◌∷◌, length, false, map, rules, refl, ap, sym, ◌∙◌}
use Rattle.go_type.specs.declared.types.TypeId.{TypeId}
use Rattle.go_type.specs.Levels.{trees_of}
use Rattle.js_prints.specs.Prints.{has_no_types}
use Rattle.go_type.specs.Tree.{Ty}
use Rattle.go_core.specs.CoreTree as core
use Rattle.go_core.specs.CoreView.{expr_view, exprs_view, exprs_of, stmt_view, stmt_form_view, stmts_view, stmts_of}
use Rattle.go_core.specs.declared.node.CoreExprs.{CoreExprs, out-CoreExprs, fold_out-CoreExprs}
use Rattle.go_core.specs.declared.statement.CoreStmt.{CoreStmt, out-CoreStmt, fold_out-CoreStmt}
use Rattle.go_core.specs.declared.statement.CoreStmts.{CoreStmts, out-CoreStmts, fold_out-CoreStmts}
use Rattle.go_core.specs.declared.statement.CoreStmtForm.{CoreStmtForm, fold-roll-CoreStmtForm}
use Rattle.go_core.specs.declared.statement.CoreStmtForm.TheVariants as statement

stmt_whole : (ts : List Ty) (s : CoreStmt) → stmt_view ts s ≡ stmt_form_view ts (out-CoreStmt s).form.value
stmt_whole ts s = search (rules, fold_out-CoreStmt)

pub stmt_at : (ts : List Ty) (s : CoreStmt) (f : CoreStmtForm) → f ≡ (out-CoreStmt s).form.value → stmt_view ts s ≡ stmt_form_view ts f
stmt_at ts s f h = stmt_whole ts s ∙ ap (stmt_form_view ts) (sym h)

pub stmt_Print : (ts : List Ty) (x : CoreStmtForm) (es : _) (l : _) → x ≡ statement.Print es l → stmt_form_view ts x ≡ core.print (exprs_view ts es) l
stmt_Print ts x es l h = rw (h, ← statement.rolls-Print, fold-roll-CoreStmtForm)

pub exprs_whole : (ts : List Ty) (es : CoreExprs) → exprs_view ts es ≡ exprs_of (map (expr_view ts) (out-CoreExprs es).items.items)
exprs_whole ts es = search (rules, fold_out-CoreExprs)

pub stmts_whole : (ts : List Ty) (ss : CoreStmts) → stmts_view ts ss ≡ stmts_of (map (stmt_view ts) (out-CoreStmts ss).items.items)
stmts_whole ts ss = search (rules, fold_out-CoreStmts)

pub some_types : (ts : List Ty) (ids xs : List TypeId) → xs ≡ ids → 1 ≤ length xs → false ≡ has_no_types (trees_of ts ids)
some_types ts [] xs e h = let none : length xs ≡ 0 = ap length e in absurd (omega (arith, h, none))
some_types ts (i ∷ is) xs e h = refl
