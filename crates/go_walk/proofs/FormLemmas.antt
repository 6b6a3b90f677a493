-- The names in an expression or a statement of a form, by its parts.
use Rattle.std.proofs.Common.{◌≡◌, ◌∙◌, sym, ap, rules, List, map, ◌++◌}
use Rattle.std.specs.Prelude.{Some, None, option_map}
use Rattle.go_syntax.specs.Tree as tree
use Rattle.go_syntax.specs.View.{expr_view, expr_form_view, exprs_of, elem_view, sig_view, block_view, stmt_view, stmt_form_view, stmts_of, clause_view, joined, maybe_expr, maybe_stmt}
use Rattle.go_syntax.specs.declared.tree.Block.{Block, out-Block, fold_out-Block}
use Rattle.go_syntax.specs.declared.tree.Expr.{Expr, fold_out-Expr}
use Rattle.go_syntax.specs.declared.tree.ExprForm.{ExprForm, fold-roll-ExprForm}
use Rattle.go_syntax.specs.declared.tree.ExprForm.TheVariants as form
use Rattle.go_syntax.specs.declared.tree.Stmt.{Stmt, fold_out-Stmt}
use Rattle.go_syntax.specs.declared.tree.StmtForm.{StmtForm, fold-roll-StmtForm}
use Rattle.go_syntax.specs.declared.tree.StmtForm.TheVariants as statement
use Rattle.go_typing.specs.Uses.{names_in, names_in_bound, names_in_all, names_in_elems, names_in_sig, names_in_block, names_in_stmts, names_in_maybe, names_in_stmt, names_in_clauses}

pub expr_whole : (e : Expr) → expr_view e ≡ expr_form_view e.form.value e.place
expr_whole e = search (rules, fold_out-Expr)

pub stmt_whole : (s : Stmt) → stmt_view s ≡ stmt_form_view s.form.value s.place
stmt_whole s = search (rules, fold_out-Stmt)

names_of : (e : Expr) (x f : ExprForm) → x ≡ e.form.value → x ≡ f → names_in (expr_view e) ≡ names_in (expr_form_view f e.place)
names_of e x f p h = ap names_in (expr_whole e) ∙ ap (λ (g : ExprForm). names_in (expr_form_view g e.place)) (sym p ∙ h)

names_of_stmt : (s : Stmt) (x f : StmtForm) → x ≡ s.form.value → x ≡ f → names_in_stmt (stmt_view s) ≡ names_in_stmt (stmt_form_view f s.place)
names_of_stmt s x f p h = ap names_in_stmt (stmt_whole s) ∙ ap (λ (g : StmtForm). names_in_stmt (stmt_form_view g s.place)) (sym p ∙ h)

pub names_Assert : (e : Expr) (x : ExprForm) (a b : Expr) → x ≡ e.form.value → x ≡ form.Assert a b → names_in (expr_view e) ≡ names_in (expr_view a) ++ names_in (expr_view b)
names_Assert e x a b p h = names_of e x _ p h ∙ rw (← form.rolls-Assert, fold-roll-ExprForm)

pub names_MapT : (e : Expr) (x : ExprForm) (a b : Expr) → x ≡ e.form.value → x ≡ form.MapT a b → names_in (expr_view e) ≡ names_in (expr_view a) ++ names_in (expr_view b)
names_MapT e x a b p h = names_of e x _ p h ∙ rw (← form.rolls-MapT, fold-roll-ExprForm)

pub names_Slice : (e : Expr) (x : ExprForm) (a : Expr) (low : _) (high : _) (most : _) → x ≡ e.form.value → x ≡ form.Slice a low high most
    → names_in (expr_view e) ≡ names_in (expr_view a) ++ names_in_bound (maybe_expr (option_map expr_view low)) ++ names_in_bound (maybe_expr (option_map expr_view high)) ++ names_in_bound (maybe_expr (option_map expr_view most))
names_Slice e x a None None None p h = names_of e x _ p h ∙ rw (← form.rolls-Slice, fold-roll-ExprForm)
names_Slice e x a None None (Some most) p h = names_of e x _ p h ∙ rw (← form.rolls-Slice, fold-roll-ExprForm)
names_Slice e x a None (Some high) None p h = names_of e x _ p h ∙ rw (← form.rolls-Slice, fold-roll-ExprForm)
names_Slice e x a None (Some high) (Some most) p h = names_of e x _ p h ∙ rw (← form.rolls-Slice, fold-roll-ExprForm)
names_Slice e x a (Some low) None None p h = names_of e x _ p h ∙ rw (← form.rolls-Slice, fold-roll-ExprForm)
names_Slice e x a (Some low) None (Some most) p h = names_of e x _ p h ∙ rw (← form.rolls-Slice, fold-roll-ExprForm)
names_Slice e x a (Some low) (Some high) None p h = names_of e x _ p h ∙ rw (← form.rolls-Slice, fold-roll-ExprForm)
names_Slice e x a (Some low) (Some high) (Some most) p h = names_of e x _ p h ∙ rw (← form.rolls-Slice, fold-roll-ExprForm)

pub names_Call : (e : Expr) (x : ExprForm) (f : Expr) (args : _) (b : _) → x ≡ e.form.value → x ≡ form.Call f args b → names_in (expr_view e) ≡ names_in (expr_view f) ++ names_in_all (exprs_of (map expr_view args.items))
names_Call e x f args b p h = names_of e x _ p h ∙ rw (← form.rolls-Call, fold-roll-ExprForm)

pub names_Literal : (e : Expr) (x : ExprForm) (ty : _) (elems : _) → x ≡ e.form.value → x ≡ form.Literal ty elems
    → names_in (expr_view e) ≡ names_in_bound (maybe_expr (option_map expr_view ty)) ++ names_in_elems (joined (map elem_view elems.items) tree.NoElems)
names_Literal e x None elems p h = names_of e x _ p h ∙ rw (← form.rolls-Literal, fold-roll-ExprForm)
names_Literal e x (Some ty) elems p h = names_of e x _ p h ∙ rw (← form.rolls-Literal, fold-roll-ExprForm)

pub names_Func : (e : Expr) (x : ExprForm) (sig : _) (b : _) → x ≡ e.form.value → x ≡ form.Func sig b → names_in (expr_view e) ≡ names_in_sig (sig_view sig) ++ names_in_block (block_view b)
names_Func e x sig b p h = names_of e x _ p h ∙ rw (← form.rolls-Func, fold-roll-ExprForm)

pub names_ArrayT : (e : Expr) (x : ExprForm) (n : _) (ty : Expr) → x ≡ e.form.value → x ≡ form.ArrayT n ty → names_in (expr_view e) ≡ names_in_bound (maybe_expr (option_map expr_view n)) ++ names_in (expr_view ty)
names_ArrayT e x None ty p h = names_of e x _ p h ∙ rw (← form.rolls-ArrayT, fold-roll-ExprForm)
names_ArrayT e x (Some n) ty p h = names_of e x _ p h ∙ rw (← form.rolls-ArrayT, fold-roll-ExprForm)

pub names_For : (s : Stmt) (f : StmtForm) (init : _) (x : _) (post : _) (b : _) → f ≡ s.form.value → f ≡ statement.For init x post b
    → names_in_stmt (stmt_view s) ≡ names_in_maybe (maybe_stmt (option_map stmt_view init)) ++ names_in_bound (maybe_expr (option_map expr_view x)) ++ names_in_maybe (maybe_stmt (option_map stmt_view post)) ++ names_in_block (block_view b)
names_For s f None None None b p h = names_of_stmt s f _ p h ∙ rw (← statement.rolls-For, fold-roll-StmtForm)
names_For s f None None (Some post) b p h = names_of_stmt s f _ p h ∙ rw (← statement.rolls-For, fold-roll-StmtForm)
names_For s f None (Some x) None b p h = names_of_stmt s f _ p h ∙ rw (← statement.rolls-For, fold-roll-StmtForm)
names_For s f None (Some x) (Some post) b p h = names_of_stmt s f _ p h ∙ rw (← statement.rolls-For, fold-roll-StmtForm)
names_For s f (Some init) None None b p h = names_of_stmt s f _ p h ∙ rw (← statement.rolls-For, fold-roll-StmtForm)
names_For s f (Some init) None (Some post) b p h = names_of_stmt s f _ p h ∙ rw (← statement.rolls-For, fold-roll-StmtForm)
names_For s f (Some init) (Some x) None b p h = names_of_stmt s f _ p h ∙ rw (← statement.rolls-For, fold-roll-StmtForm)
names_For s f (Some init) (Some x) (Some post) b p h = names_of_stmt s f _ p h ∙ rw (← statement.rolls-For, fold-roll-StmtForm)

pub names_Range : (s : Stmt) (f : StmtForm) (xs : _) (new : _) (y : Expr) (b : _) → f ≡ s.form.value → f ≡ statement.Range xs new y b
    → names_in_stmt (stmt_view s) ≡ names_in_all (exprs_of (map expr_view xs.items)) ++ names_in (expr_view y) ++ names_in_block (block_view b)
names_Range s f xs new y b p h = names_of_stmt s f _ p h ∙ rw (← statement.rolls-Range, fold-roll-StmtForm)

pub names_Switch : (s : Stmt) (f : StmtForm) (init : _) (x : _) (cs : _) → f ≡ s.form.value → f ≡ statement.Switch init x cs
    → names_in_stmt (stmt_view s) ≡ names_in_maybe (maybe_stmt (option_map stmt_view init)) ++ names_in_bound (maybe_expr (option_map expr_view x)) ++ names_in_clauses (joined (map clause_view cs.items) tree.NoClauses)
names_Switch s f None None cs p h = names_of_stmt s f _ p h ∙ rw (← statement.rolls-Switch, fold-roll-StmtForm)
names_Switch s f None (Some x) cs p h = names_of_stmt s f _ p h ∙ rw (← statement.rolls-Switch, fold-roll-StmtForm)
names_Switch s f (Some init) None cs p h = names_of_stmt s f _ p h ∙ rw (← statement.rolls-Switch, fold-roll-StmtForm)
names_Switch s f (Some init) (Some x) cs p h = names_of_stmt s f _ p h ∙ rw (← statement.rolls-Switch, fold-roll-StmtForm)

pub names_TypeSwitch : (s : Stmt) (f : StmtForm) (init : _) (n : _) (x : Expr) (cs : _) → f ≡ s.form.value → f ≡ statement.TypeSwitch init n x cs
    → names_in_stmt (stmt_view s) ≡ names_in_maybe (maybe_stmt (option_map stmt_view init)) ++ names_in (expr_view x) ++ names_in_clauses (joined (map clause_view cs.items) tree.NoClauses)
names_TypeSwitch s f None n x cs p h = names_of_stmt s f _ p h ∙ rw (← statement.rolls-TypeSwitch, fold-roll-StmtForm)
names_TypeSwitch s f (Some init) n x cs p h = names_of_stmt s f _ p h ∙ rw (← statement.rolls-TypeSwitch, fold-roll-StmtForm)

-- a block's names are its statements'
pub names_of_block : (b : Block) (ss : List Stmt) → ss ≡ (out-Block b).stmts.items → names_in_block (block_view b) ≡ names_in_stmts (stmts_of (map stmt_view ss))
names_of_block b ss h = search (rules, fold_out-Block, h)
