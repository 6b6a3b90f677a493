-- The tree that a statement of a form stands for, by its parts.
use Rattle.std.proofs.Common.{◌≡◌, ◌∙◌, sym, ap, rules, map}
use Rattle.std.specs.Prelude.{Option, Some, None, option_map}
use Rattle.go_syntax.specs.Tree.{NoClauses, NoComms, EmptyStmt, ExprStmt, SendStmt, IncDecStmt, AssignStmt, DefineStmt, DeclStmt, BlockStmt, IfStmt, ForStmt, RangeStmt, SwitchStmt, TypeSwitchStmt, SelectStmt, GoStmt, DeferStmt, ReturnStmt, BreakStmt, ContinueStmt, FallthroughStmt, LabeledStmt, BlockOf, MoreClauses}
use Rattle.go_syntax.specs.Tree as t
use Rattle.go_syntax.specs.View.{expr_view, exprs_of, maybe_expr, maybe_stmt, stmt_view, stmt_form_view, stmts_of, block_view, clause_view, comm_view, decl_view, joined}
use Rattle.go_syntax.specs.declared.tree.Stmt.{Stmt, fold_out-Stmt}
use Rattle.go_syntax.specs.declared.tree.Expr.{Expr}
use Rattle.go_syntax.specs.declared.tree.Block.{Block, out-Block, fold_out-Block}
use Rattle.go_syntax.specs.declared.tree.Clause.{Clause, out-Clause, fold_out-Clause}
use Rattle.go_syntax.specs.declared.tree.StmtForm.{StmtForm, fold-roll-StmtForm}
use Rattle.go_syntax.specs.declared.tree.StmtForm.TheVariants as form

stmt_whole : (s : Stmt) → stmt_view s ≡ stmt_form_view s.form.value s.place
stmt_whole s = search (rules, fold_out-Stmt)

view_of : (s : Stmt) (x f : StmtForm) → x ≡ s.form.value → x ≡ f → stmt_view s ≡ stmt_form_view f s.place
view_of s x f p h = stmt_whole s ∙ ap (λ (g : StmtForm). stmt_form_view g s.place) (sym p ∙ h)

pub view_Empty : (s : Stmt) (x : StmtForm) → x ≡ s.form.value → x ≡ form.Empty → stmt_view s ≡ EmptyStmt s.place
view_Empty s x p h = view_of s x _ p h ∙ rw (← form.rolls-Empty, fold-roll-StmtForm)

pub view_Expr : (s : Stmt) (x : StmtForm) (xs : _) → x ≡ s.form.value → x ≡ form.Expr xs → stmt_view s ≡ ExprStmt s.place (exprs_of (map expr_view xs.items))
view_Expr s x xs p h = view_of s x _ p h ∙ rw (← form.rolls-Expr, fold-roll-StmtForm)

pub view_Send : (s : Stmt) (x : StmtForm) (xs : _) (y : _) → x ≡ s.form.value → x ≡ form.Send xs y → stmt_view s ≡ SendStmt s.place (exprs_of (map expr_view xs.items)) (expr_view y)
view_Send s x xs y p h = view_of s x _ p h ∙ rw (← form.rolls-Send, fold-roll-StmtForm)

pub view_IncDec : (s : Stmt) (x : StmtForm) (xs : _) (up : _) → x ≡ s.form.value → x ≡ form.IncDec xs up → stmt_view s ≡ IncDecStmt s.place (exprs_of (map expr_view xs.items)) up
view_IncDec s x xs up p h = view_of s x _ p h ∙ rw (← form.rolls-IncDec, fold-roll-StmtForm)

pub view_Assign : (s : Stmt) (x : StmtForm) (xs : _) (op : _) (ys : _) → x ≡ s.form.value → x ≡ form.Assign xs op ys → stmt_view s ≡ AssignStmt s.place (exprs_of (map expr_view xs.items)) op (exprs_of (map expr_view ys.items))
view_Assign s x xs op ys p h = view_of s x _ p h ∙ rw (← form.rolls-Assign, fold-roll-StmtForm)

pub view_Define : (s : Stmt) (x : StmtForm) (xs : _) (ys : _) → x ≡ s.form.value → x ≡ form.Define xs ys → stmt_view s ≡ DefineStmt s.place (exprs_of (map expr_view xs.items)) (exprs_of (map expr_view ys.items))
view_Define s x xs ys p h = view_of s x _ p h ∙ rw (← form.rolls-Define, fold-roll-StmtForm)

pub view_Decl : (s : Stmt) (x : StmtForm) (d : _) → x ≡ s.form.value → x ≡ form.Decl d → stmt_view s ≡ DeclStmt s.place (decl_view d)
view_Decl s x d p h = view_of s x _ p h ∙ rw (← form.rolls-Decl, fold-roll-StmtForm)

pub view_Block : (s : Stmt) (x : StmtForm) (b : _) → x ≡ s.form.value → x ≡ form.Block b → stmt_view s ≡ BlockStmt s.place (block_view b)
view_Block s x b p h = view_of s x _ p h ∙ rw (← form.rolls-Block, fold-roll-StmtForm)

pub view_If : (s : Stmt) (x : StmtForm) (init : Option Stmt) (e : _) (b : _) (other : Option Stmt) → x ≡ s.form.value → x ≡ form.If init e b other → stmt_view s ≡ IfStmt s.place (maybe_stmt (option_map stmt_view init)) (expr_view e) (block_view b) (maybe_stmt (option_map stmt_view other))
view_If s x None e b None p h = view_of s x _ p h ∙ rw (← form.rolls-If, fold-roll-StmtForm)
view_If s x None e b (Some other) p h = view_of s x _ p h ∙ rw (← form.rolls-If, fold-roll-StmtForm)
view_If s x (Some init) e b None p h = view_of s x _ p h ∙ rw (← form.rolls-If, fold-roll-StmtForm)
view_If s x (Some init) e b (Some other) p h = view_of s x _ p h ∙ rw (← form.rolls-If, fold-roll-StmtForm)

pub view_For : (s : Stmt) (x : StmtForm) (init : Option Stmt) (e : Option Expr) (post : Option Stmt) (b : _) → x ≡ s.form.value → x ≡ form.For init e post b → stmt_view s ≡ ForStmt s.place (maybe_stmt (option_map stmt_view init)) (maybe_expr (option_map expr_view e)) (maybe_stmt (option_map stmt_view post)) (block_view b)
view_For s x None None None b p h = view_of s x _ p h ∙ rw (← form.rolls-For, fold-roll-StmtForm)
view_For s x None None (Some post) b p h = view_of s x _ p h ∙ rw (← form.rolls-For, fold-roll-StmtForm)
view_For s x None (Some e) None b p h = view_of s x _ p h ∙ rw (← form.rolls-For, fold-roll-StmtForm)
view_For s x None (Some e) (Some post) b p h = view_of s x _ p h ∙ rw (← form.rolls-For, fold-roll-StmtForm)
view_For s x (Some init) None None b p h = view_of s x _ p h ∙ rw (← form.rolls-For, fold-roll-StmtForm)
view_For s x (Some init) None (Some post) b p h = view_of s x _ p h ∙ rw (← form.rolls-For, fold-roll-StmtForm)
view_For s x (Some init) (Some e) None b p h = view_of s x _ p h ∙ rw (← form.rolls-For, fold-roll-StmtForm)
view_For s x (Some init) (Some e) (Some post) b p h = view_of s x _ p h ∙ rw (← form.rolls-For, fold-roll-StmtForm)

pub view_Switch : (s : Stmt) (x : StmtForm) (init : Option Stmt) (e : Option Expr) (cs : _) → x ≡ s.form.value → x ≡ form.Switch init e cs → stmt_view s ≡ SwitchStmt s.place (maybe_stmt (option_map stmt_view init)) (maybe_expr (option_map expr_view e)) (joined (map clause_view cs.items) NoClauses)
view_Switch s x None None cs p h = view_of s x _ p h ∙ rw (← form.rolls-Switch, fold-roll-StmtForm)
view_Switch s x None (Some e) cs p h = view_of s x _ p h ∙ rw (← form.rolls-Switch, fold-roll-StmtForm)
view_Switch s x (Some init) None cs p h = view_of s x _ p h ∙ rw (← form.rolls-Switch, fold-roll-StmtForm)
view_Switch s x (Some init) (Some e) cs p h = view_of s x _ p h ∙ rw (← form.rolls-Switch, fold-roll-StmtForm)

pub view_Return : (s : Stmt) (x : StmtForm) (xs : _) → x ≡ s.form.value → x ≡ form.Return xs → stmt_view s ≡ ReturnStmt s.place (exprs_of (map expr_view xs.items))
view_Return s x xs p h = view_of s x _ p h ∙ rw (← form.rolls-Return, fold-roll-StmtForm)

pub view_Break : (s : Stmt) (x : StmtForm) (n : _) → x ≡ s.form.value → x ≡ form.Break n → stmt_view s ≡ BreakStmt s.place n
view_Break s x n p h = view_of s x _ p h ∙ rw (← form.rolls-Break, fold-roll-StmtForm)

pub view_Continue : (s : Stmt) (x : StmtForm) (n : _) → x ≡ s.form.value → x ≡ form.Continue n → stmt_view s ≡ ContinueStmt s.place n
view_Continue s x n p h = view_of s x _ p h ∙ rw (← form.rolls-Continue, fold-roll-StmtForm)

pub view_Fallthrough : (s : Stmt) (x : StmtForm) → x ≡ s.form.value → x ≡ form.Fallthrough → stmt_view s ≡ FallthroughStmt s.place
view_Fallthrough s x p h = view_of s x _ p h ∙ rw (← form.rolls-Fallthrough, fold-roll-StmtForm)

pub view_Labeled : (s : Stmt) (x : StmtForm) (n : _) (r : _) → x ≡ s.form.value → x ≡ form.Labeled n r → stmt_view s ≡ LabeledStmt s.place n (stmt_view r)
view_Labeled s x n r p h = view_of s x _ p h ∙ rw (← form.rolls-Labeled, fold-roll-StmtForm)

-- ---- those that are not built

pub view_Range : (s : Stmt) (x : StmtForm) (xs : _) (new : _) (y : _) (b : _) → x ≡ s.form.value → x ≡ form.Range xs new y b → stmt_view s ≡ RangeStmt s.place (exprs_of (map expr_view xs.items)) new (expr_view y) (block_view b)
view_Range s x xs new y b p h = view_of s x _ p h ∙ rw (← form.rolls-Range, fold-roll-StmtForm)

pub view_TypeSwitch : (s : Stmt) (x : StmtForm) (init : Option Stmt) (n : _) (y : _) (cs : _) → x ≡ s.form.value → x ≡ form.TypeSwitch init n y cs → stmt_view s ≡ TypeSwitchStmt s.place (maybe_stmt (option_map stmt_view init)) n (expr_view y) (joined (map clause_view cs.items) NoClauses)
view_TypeSwitch s x None n y cs p h = view_of s x _ p h ∙ rw (← form.rolls-TypeSwitch, fold-roll-StmtForm)
view_TypeSwitch s x (Some init) n y cs p h = view_of s x _ p h ∙ rw (← form.rolls-TypeSwitch, fold-roll-StmtForm)

pub view_Select : (s : Stmt) (x : StmtForm) (cs : _) → x ≡ s.form.value → x ≡ form.Select cs → stmt_view s ≡ SelectStmt s.place (joined (map comm_view cs.items) NoComms)
view_Select s x cs p h = view_of s x _ p h ∙ rw (← form.rolls-Select, fold-roll-StmtForm)

pub view_Go : (s : Stmt) (x : StmtForm) (y : _) → x ≡ s.form.value → x ≡ form.Go y → stmt_view s ≡ GoStmt s.place (expr_view y)
view_Go s x y p h = view_of s x _ p h ∙ rw (← form.rolls-Go, fold-roll-StmtForm)

pub view_Defer : (s : Stmt) (x : StmtForm) (y : _) → x ≡ s.form.value → x ≡ form.Defer y → stmt_view s ≡ DeferStmt s.place (expr_view y)
view_Defer s x y p h = view_of s x _ p h ∙ rw (← form.rolls-Defer, fold-roll-StmtForm)

-- ---- blocks and clauses

pub block_whole : (b : Block) → block_view b ≡ BlockOf (out-Block b).place (stmts_of (map stmt_view (out-Block b).stmts.items)) (out-Block b).end
block_whole b = search (rules, fold_out-Block)

pub clause_whole : (c : Clause) (rest : t.Clauses) → clause_view c rest ≡ MoreClauses (out-Clause c).place (exprs_of (map expr_view (out-Clause c).exprs.items)) (stmts_of (map stmt_view (out-Clause c).body.items)) rest
clause_whole c rest = search (rules, fold_out-Clause)
