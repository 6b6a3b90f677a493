-- A node of a form stands for the tree of that form.
use Rattle.std.proofs.Common.{◌≡◌}
use Rattle.std.specs.Prelude.{option_map}
use Rattle.js_tree.specs.Script as tree
use Rattle.js_tree.specs.View.{expr_view, exprs_view, stmt_view, stmts_view, else_view, cases_view}
use Rattle.js_tree.specs.declared.tree.JsExpr.{JsExpr, fold_out-JsExpr}
use Rattle.js_tree.specs.declared.tree.JsStmt.{JsStmt, fold_out-JsStmt}
use Rattle.js_tree.specs.declared.tree.ExprForm.{fold-roll-ExprForm}
use Rattle.js_tree.specs.declared.tree.StmtForm.{fold-roll-StmtForm}
use Rattle.js_tree.specs.declared.tree.ExprForm.TheVariants as form
use Rattle.js_tree.specs.declared.tree.StmtForm.TheVariants as form_s

pub view_Number : (e : JsExpr) (n : _) → e.form ≡ form.Number n → expr_view e ≡ tree.number e.at n
view_Number e n h = rw (fold_out-JsExpr, h, ← form.rolls-Number, fold-roll-ExprForm)

pub view_Str : (e : JsExpr) (s : _) → e.form ≡ form.Str s → expr_view e ≡ tree.string e.at s
view_Str e s h = rw (fold_out-JsExpr, h, ← form.rolls-Str, fold-roll-ExprForm)

pub view_Bool : (e : JsExpr) (b : _) → e.form ≡ form.Bool b → expr_view e ≡ tree.boolean e.at b
view_Bool e b h = rw (fold_out-JsExpr, h, ← form.rolls-Bool, fold-roll-ExprForm)

pub view_Null : (e : JsExpr) → e.form ≡ form.Null → expr_view e ≡ tree.null e.at
view_Null e h = rw (fold_out-JsExpr, h, ← form.rolls-Null, fold-roll-ExprForm)

pub view_Name : (e : JsExpr) (x : _) → e.form ≡ form.Name x → expr_view e ≡ tree.name e.at x
view_Name e x h = rw (fold_out-JsExpr, h, ← form.rolls-Name, fold-roll-ExprForm)

pub view_Unary : (e : JsExpr) (op : _) (a : _) → e.form ≡ form.Unary op a → expr_view e ≡ tree.unary e.at op (expr_view a.value)
view_Unary e op a h = rw (fold_out-JsExpr, h, ← form.rolls-Unary, fold-roll-ExprForm)

pub view_Binary : (e : JsExpr) (op : _) (a : _) (b : _) → e.form ≡ form.Binary op a b → expr_view e ≡ tree.binary e.at op (expr_view a.value) (expr_view b.value)
view_Binary e op a b h = rw (fold_out-JsExpr, h, ← form.rolls-Binary, fold-roll-ExprForm)

pub view_And : (e : JsExpr) (a : _) (b : _) → e.form ≡ form.And a b → expr_view e ≡ tree.both e.at (expr_view a.value) (expr_view b.value)
view_And e a b h = rw (fold_out-JsExpr, h, ← form.rolls-And, fold-roll-ExprForm)

pub view_Or : (e : JsExpr) (a : _) (b : _) → e.form ≡ form.Or a b → expr_view e ≡ tree.either e.at (expr_view a.value) (expr_view b.value)
view_Or e a b h = rw (fold_out-JsExpr, h, ← form.rolls-Or, fold-roll-ExprForm)

pub view_Conditional : (e : JsExpr) (a : _) (b : _) (x : _) → e.form ≡ form.Conditional a b x → expr_view e ≡ tree.choice e.at (expr_view a.value) (expr_view b.value) (expr_view x.value)
view_Conditional e a b x h = rw (fold_out-JsExpr, h, ← form.rolls-Conditional, fold-roll-ExprForm)

pub view_Call : (e : JsExpr) (a : _) (es : _) → e.form ≡ form.Call a es → expr_view e ≡ tree.call e.at (expr_view a.value) (exprs_view es)
view_Call e a es h = rw (fold_out-JsExpr, h, ← form.rolls-Call, fold-roll-ExprForm)

pub view_Index : (e : JsExpr) (a : _) (b : _) → e.form ≡ form.Index a b → expr_view e ≡ tree.index e.at (expr_view a.value) (expr_view b.value)
view_Index e a b h = rw (fold_out-JsExpr, h, ← form.rolls-Index, fold-roll-ExprForm)

pub view_Length : (e : JsExpr) (a : _) → e.form ≡ form.Length a → expr_view e ≡ tree.length_of e.at (expr_view a.value)
view_Length e a h = rw (fold_out-JsExpr, h, ← form.rolls-Length, fold-roll-ExprForm)

pub view_Pop : (e : JsExpr) (a : _) → e.form ≡ form.Pop a → expr_view e ≡ tree.pop e.at (expr_view a.value)
view_Pop e a h = rw (fold_out-JsExpr, h, ← form.rolls-Pop, fold-roll-ExprForm)

pub view_CharCodeAt : (e : JsExpr) (a : _) (b : _) → e.form ≡ form.CharCodeAt a b → expr_view e ≡ tree.char_code_at e.at (expr_view a.value) (expr_view b.value)
view_CharCodeAt e a b h = rw (fold_out-JsExpr, h, ← form.rolls-CharCodeAt, fold-roll-ExprForm)

pub view_Substring : (e : JsExpr) (a : _) (b : _) (x : _) → e.form ≡ form.Substring a b x → expr_view e ≡ tree.substring e.at (expr_view a.value) (expr_view b.value) (expr_view x.value)
view_Substring e a b x h = rw (fold_out-JsExpr, h, ← form.rolls-Substring, fold-roll-ExprForm)

pub view_Array : (e : JsExpr) (es : _) → e.form ≡ form.Array es → expr_view e ≡ tree.array e.at (exprs_view es)
view_Array e es h = rw (fold_out-JsExpr, h, ← form.rolls-Array, fold-roll-ExprForm)

pub view_Dictionary : (e : JsExpr) → e.form ≡ form.Dictionary → expr_view e ≡ tree.dictionary e.at
view_Dictionary e h = rw (fold_out-JsExpr, h, ← form.rolls-Dictionary, fold-roll-ExprForm)

pub view_Decimal : (e : JsExpr) (a : _) → e.form ≡ form.Decimal a → expr_view e ≡ tree.decimal_of e.at (expr_view a.value)
view_Decimal e a h = rw (fold_out-JsExpr, h, ← form.rolls-Decimal, fold-roll-ExprForm)

pub view_FromCharCode : (e : JsExpr) (a : _) → e.form ≡ form.FromCharCode a → expr_view e ≡ tree.from_char_code e.at (expr_view a.value)
view_FromCharCode e a h = rw (fold_out-JsExpr, h, ← form.rolls-FromCharCode, fold-roll-ExprForm)

pub view_Declare : (s : JsStmt) (x : _) (e : _) → s.form ≡ form_s.Declare x e → stmt_view s ≡ tree.declare s.at x (expr_view e)
view_Declare s x e h = rw (fold_out-JsStmt, h, ← form_s.rolls-Declare, fold-roll-StmtForm)

pub view_Assign : (s : JsStmt) (x : _) (e : _) → s.form ≡ form_s.Assign x e → stmt_view s ≡ tree.assign s.at x (expr_view e)
view_Assign s x e h = rw (fold_out-JsStmt, h, ← form_s.rolls-Assign, fold-roll-StmtForm)

pub view_Store : (s : JsStmt) (e : _) (i : _) (v : _) → s.form ≡ form_s.Store e i v → stmt_view s ≡ tree.store s.at (expr_view e) (expr_view i) (expr_view v)
view_Store s e i v h = rw (fold_out-JsStmt, h, ← form_s.rolls-Store, fold-roll-StmtForm)

pub view_Perform : (s : JsStmt) (e : _) → s.form ≡ form_s.Perform e → stmt_view s ≡ tree.perform s.at (expr_view e)
view_Perform s e h = rw (fold_out-JsStmt, h, ← form_s.rolls-Perform, fold-roll-StmtForm)

pub view_Push : (s : JsStmt) (e : _) (v : _) → s.form ≡ form_s.Push e v → stmt_view s ≡ tree.push s.at (expr_view e) (expr_view v)
view_Push s e v h = rw (fold_out-JsStmt, h, ← form_s.rolls-Push, fold-roll-StmtForm)

pub view_Delete : (s : JsStmt) (e : _) (k : _) → s.form ≡ form_s.Delete e k → stmt_view s ≡ tree.remove s.at (expr_view e) (expr_view k)
view_Delete s e k h = rw (fold_out-JsStmt, h, ← form_s.rolls-Delete, fold-roll-StmtForm)

pub view_If : (s : JsStmt) (e : _) (ss : _) (other : _) → s.form ≡ form_s.If e ss other → stmt_view s ≡ tree.branch s.at (expr_view e) (stmts_view ss) (else_view other)
view_If s e ss other h = rw (fold_out-JsStmt, h, ← form_s.rolls-If, fold-roll-StmtForm)

pub view_While : (s : JsStmt) (l : _) (e : _) (ss : _) → s.form ≡ form_s.While l e ss → stmt_view s ≡ tree.while s.at l (expr_view e) (stmts_view ss)
view_While s l e ss h = rw (fold_out-JsStmt, h, ← form_s.rolls-While, fold-roll-StmtForm)

pub view_Forever : (s : JsStmt) (l : _) (ss : _) → s.form ≡ form_s.Forever l ss → stmt_view s ≡ tree.forever s.at l (stmts_view ss)
view_Forever s l ss h = rw (fold_out-JsStmt, h, ← form_s.rolls-Forever, fold-roll-StmtForm)

pub view_Switch : (s : JsStmt) (l : _) (e : _) (cs : _) → s.form ≡ form_s.Switch l e cs → stmt_view s ≡ tree.switch s.at l (expr_view e) (cases_view cs)
view_Switch s l e cs h = rw (fold_out-JsStmt, h, ← form_s.rolls-Switch, fold-roll-StmtForm)

pub view_Return : (s : JsStmt) (e : _) → s.form ≡ form_s.Return e → stmt_view s ≡ tree.return s.at (option_map expr_view e)
view_Return s e h = rw (fold_out-JsStmt, h, ← form_s.rolls-Return, fold-roll-StmtForm)

pub view_Throw : (s : JsStmt) (e : _) → s.form ≡ form_s.Throw e → stmt_view s ≡ tree.throw s.at (expr_view e)
view_Throw s e h = rw (fold_out-JsStmt, h, ← form_s.rolls-Throw, fold-roll-StmtForm)

pub view_Try : (s : JsStmt) (ss : _) (hs : _) → s.form ≡ form_s.Try ss hs → stmt_view s ≡ tree.attempt s.at (stmts_view ss) (stmts_view hs)
view_Try s ss hs h = rw (fold_out-JsStmt, h, ← form_s.rolls-Try, fold-roll-StmtForm)
