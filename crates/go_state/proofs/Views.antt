-- A node of a form stands for the tree of that form.
use Rattle.std.proofs.Common.{◌≡◌, List, map, rules, ap, sym, ◌∙◌}
use Rattle.std.specs.Prelude.{Some, None, option_map}
use Rattle.go_type.specs.Tree.{Ty}
use Rattle.go_type.specs.Levels.{trees_of}
use Rattle.go_core.specs.CoreTree as core
use Rattle.go_core.specs.CoreView.{ty, var_of, method_of, constant_of, branch_of, option_var, bound_of, tests_of, expr_view, expr_form_view, exprs_view, place_view, place_form_view, callee_view, target_view, stmt_view, stmt_form_view, stmts_view}
use Rattle.go_core.specs.declared.node.CoreExpr.{CoreExpr, out-CoreExpr, fold_out-CoreExpr}
use Rattle.go_core.specs.declared.node.CorePlace.{CorePlace, out-CorePlace, fold_out-CorePlace}
use Rattle.go_core.specs.declared.statement.CoreStmt.{CoreStmt, out-CoreStmt, fold_out-CoreStmt}
use Rattle.go_core.specs.declared.node.CoreForm.{CoreForm, fold-roll-CoreForm}
use Rattle.go_core.specs.declared.node.CoreForm.TheVariants as node
use Rattle.go_core.specs.declared.node.PlaceForm.{PlaceForm, fold-roll-PlaceForm}
use Rattle.go_core.specs.declared.node.PlaceForm.TheVariants as at
use Rattle.go_core.specs.declared.node.Callee.{Callee, fold-roll-Callee}
use Rattle.go_core.specs.declared.node.Callee.TheVariants as called
use Rattle.go_core.specs.declared.statement.CoreStmtForm.{CoreStmtForm, fold-roll-CoreStmtForm}
use Rattle.go_core.specs.declared.statement.CoreStmtForm.TheVariants as statement
use Rattle.go_state.specs.TasksSeen.{elements_view, pairs_view, clauses_view, cases_view}

-- ---- a node stands for what its form does
pub expr_whole : (ts : List Ty) (e : CoreExpr) → expr_view ts e ≡ expr_form_view ts (out-CoreExpr e).form.value
expr_whole ts e = search (rules, fold_out-CoreExpr)

pub place_whole : (ts : List Ty) (p : CorePlace) → place_view ts p ≡ place_form_view ts (out-CorePlace p).form.value
place_whole ts p = search (rules, fold_out-CorePlace)

pub stmt_whole : (ts : List Ty) (s : CoreStmt) → stmt_view ts s ≡ stmt_form_view ts (out-CoreStmt s).form.value
stmt_whole ts s = search (rules, fold_out-CoreStmt)

pub expr_at : (ts : List Ty) (e : CoreExpr) (f : CoreForm) → f ≡ (out-CoreExpr e).form.value → expr_view ts e ≡ expr_form_view ts f
expr_at ts e f h = expr_whole ts e ∙ ap (expr_form_view ts) (sym h)

pub stmt_at : (ts : List Ty) (s : CoreStmt) (f : CoreStmtForm) → f ≡ (out-CoreStmt s).form.value → stmt_view ts s ≡ stmt_form_view ts f
stmt_at ts s f h = stmt_whole ts s ∙ ap (stmt_form_view ts) (sym h)

-- ---- by the form
pub expr_Const : (ts : List Ty) (x : CoreForm) (t : _) (c : _) → x ≡ node.Const t c → expr_form_view ts x ≡ core.constant (ty ts t) (constant_of c)
expr_Const ts x t c h = rw (h, ← node.rolls-Const, fold-roll-CoreForm)

pub expr_Zero : (ts : List Ty) (x : CoreForm) (t : _) → x ≡ node.Zero t → expr_form_view ts x ≡ core.zero_value (ty ts t)
expr_Zero ts x t h = rw (h, ← node.rolls-Zero, fold-roll-CoreForm)

pub expr_Read : (ts : List Ty) (x : CoreForm) (t : _) (p : _) → x ≡ node.Read t p → expr_form_view ts x ≡ core.read (ty ts t) (place_view ts p)
expr_Read ts x t p h = rw (h, ← node.rolls-Read, fold-roll-CoreForm)

pub expr_Address : (ts : List Ty) (x : CoreForm) (t : _) (p : _) → x ≡ node.Address t p → expr_form_view ts x ≡ core.address (ty ts t) (place_view ts p)
expr_Address ts x t p h = rw (h, ← node.rolls-Address, fold-roll-CoreForm)

pub expr_Unary : (ts : List Ty) (x : CoreForm) (op : _) (t : _) (e : _) → x ≡ node.Unary op t e → expr_form_view ts x ≡ core.unary op (ty ts t) (expr_view ts e)
expr_Unary ts x op t e h = rw (h, ← node.rolls-Unary, fold-roll-CoreForm)

pub expr_Binary : (ts : List Ty) (x : CoreForm) (op : _) (t : _) (a : _) (b : _) → x ≡ node.Binary op t a b → expr_form_view ts x ≡ core.binary op (ty ts t) (expr_view ts a) (expr_view ts b)
expr_Binary ts x op t a b h = rw (h, ← node.rolls-Binary, fold-roll-CoreForm)

pub expr_Concat : (ts : List Ty) (x : CoreForm) (t : _) (a : _) (b : _) → x ≡ node.Concat t a b → expr_form_view ts x ≡ core.concat (ty ts t) (expr_view ts a) (expr_view ts b)
expr_Concat ts x t a b h = rw (h, ← node.rolls-Concat, fold-roll-CoreForm)

pub expr_Equal : (ts : List Ty) (x : CoreForm) (n : _) (u : _) (t : _) (a : _) (b : _) → x ≡ node.Equal n u t a b → expr_form_view ts x ≡ core.equal n (ty ts u) (ty ts t) (expr_view ts a) (expr_view ts b)
expr_Equal ts x n u t a b h = rw (h, ← node.rolls-Equal, fold-roll-CoreForm)

pub expr_Less : (ts : List Ty) (x : CoreForm) (op : _) (u : _) (t : _) (a : _) (b : _) → x ≡ node.Less op u t a b → expr_form_view ts x ≡ core.less op (ty ts u) (ty ts t) (expr_view ts a) (expr_view ts b)
expr_Less ts x op u t a b h = rw (h, ← node.rolls-Less, fold-roll-CoreForm)

pub expr_AndThen : (ts : List Ty) (x : CoreForm) (t : _) (a : _) (b : _) → x ≡ node.AndThen t a b → expr_form_view ts x ≡ core.and_then (ty ts t) (expr_view ts a) (expr_view ts b)
expr_AndThen ts x t a b h = rw (h, ← node.rolls-AndThen, fold-roll-CoreForm)

pub expr_OrElse : (ts : List Ty) (x : CoreForm) (t : _) (a : _) (b : _) → x ≡ node.OrElse t a b → expr_form_view ts x ≡ core.or_else (ty ts t) (expr_view ts a) (expr_view ts b)
expr_OrElse ts x t a b h = rw (h, ← node.rolls-OrElse, fold-roll-CoreForm)

pub expr_Not : (ts : List Ty) (x : CoreForm) (t : _) (e : _) → x ≡ node.Not t e → expr_form_view ts x ≡ core.not_ (ty ts t) (expr_view ts e)
expr_Not ts x t e h = rw (h, ← node.rolls-Not, fold-roll-CoreForm)

pub expr_Convert : (ts : List Ty) (x : CoreForm) (u : _) (t : _) (e : _) → x ≡ node.Convert u t e → expr_form_view ts x ≡ core.convert (ty ts u) (ty ts t) (expr_view ts e)
expr_Convert ts x u t e h = rw (h, ← node.rolls-Convert, fold-roll-CoreForm)

pub expr_ByteAt : (ts : List Ty) (x : CoreForm) (a : _) (b : _) → x ≡ node.ByteAt a b → expr_form_view ts x ≡ core.byte_at (expr_view ts a) (expr_view ts b)
expr_ByteAt ts x a b h = rw (h, ← node.rolls-ByteAt, fold-roll-CoreForm)

pub expr_SliceOf : (ts : List Ty) (x : CoreForm) (u : _) (t : _) (e : _) (low : _) (high : _) (limit : _) → x ≡ node.SliceOf u t e low high limit → expr_form_view ts x ≡ core.slice_of (ty ts u) (ty ts t) (expr_view ts e) (bound_of (option_map (expr_view ts) low)) (bound_of (option_map (expr_view ts) high)) (bound_of (option_map (expr_view ts) limit))
expr_SliceOf ts x u t e None None None h = rw (h, ← node.rolls-SliceOf, fold-roll-CoreForm)
expr_SliceOf ts x u t e None None (Some limit) h = rw (h, ← node.rolls-SliceOf, fold-roll-CoreForm)
expr_SliceOf ts x u t e None (Some high) None h = rw (h, ← node.rolls-SliceOf, fold-roll-CoreForm)
expr_SliceOf ts x u t e None (Some high) (Some limit) h = rw (h, ← node.rolls-SliceOf, fold-roll-CoreForm)
expr_SliceOf ts x u t e (Some low) None None h = rw (h, ← node.rolls-SliceOf, fold-roll-CoreForm)
expr_SliceOf ts x u t e (Some low) None (Some limit) h = rw (h, ← node.rolls-SliceOf, fold-roll-CoreForm)
expr_SliceOf ts x u t e (Some low) (Some high) None h = rw (h, ← node.rolls-SliceOf, fold-roll-CoreForm)
expr_SliceOf ts x u t e (Some low) (Some high) (Some limit) h = rw (h, ← node.rolls-SliceOf, fold-roll-CoreForm)

pub expr_Build : (ts : List Ty) (x : CoreForm) (t : _) (n : _) (es : _) → x ≡ node.Build t n es → expr_form_view ts x ≡ core.build (ty ts t) n (elements_view ts es)
expr_Build ts x t n es h = rw (h, ← node.rolls-Build, fold-roll-CoreForm)

pub expr_BuildMap : (ts : List Ty) (x : CoreForm) (t : _) (ps : _) → x ≡ node.BuildMap t ps → expr_form_view ts x ≡ core.build_map (ty ts t) (pairs_view ts ps)
expr_BuildMap ts x t ps h = rw (h, ← node.rolls-BuildMap, fold-roll-CoreForm)

pub expr_Closure : (ts : List Ty) (x : CoreForm) (t : _) (f : _) → x ≡ node.Closure t f → expr_form_view ts x ≡ core.closure (ty ts t) f.0
expr_Closure ts x t f h = rw (h, ← node.rolls-Closure, fold-roll-CoreForm)

pub expr_Bind : (ts : List Ty) (x : CoreForm) (t : _) (m : _) (e : _) → x ≡ node.Bind t m e → expr_form_view ts x ≡ core.bind (ty ts t) (method_of ts m) (expr_view ts e)
expr_Bind ts x t m e h = rw (h, ← node.rolls-Bind, fold-roll-CoreForm)

pub expr_BindDynamic : (ts : List Ty) (x : CoreForm) (t : _) (name : _) (package_ : _) (e : _) → x ≡ node.BindDynamic t name package_ e → expr_form_view ts x ≡ core.bind_dynamic (ty ts t) name package_ (expr_view ts e)
expr_BindDynamic ts x t name package_ e h = rw (h, ← node.rolls-BindDynamic, fold-roll-CoreForm)

pub expr_Call : (ts : List Ty) (x : CoreForm) (results : _) (callee : _) (es : _) → x ≡ node.Call results callee es → expr_form_view ts x ≡ core.call (trees_of ts results) (callee_view ts callee) (exprs_view ts es)
expr_Call ts x results callee es h = rw (h, ← node.rolls-Call, fold-roll-CoreForm)

pub expr_MapGet : (ts : List Ty) (x : CoreForm) (t : _) (ok : _) (e : _) (key : _) → x ≡ node.MapGet t ok e key → expr_form_view ts x ≡ core.map_get (ty ts t) ok (expr_view ts e) (expr_view ts key)
expr_MapGet ts x t ok e key h = rw (h, ← node.rolls-MapGet, fold-roll-CoreForm)

pub expr_Len : (ts : List Ty) (x : CoreForm) (t : _) (e : _) → x ≡ node.Len t e → expr_form_view ts x ≡ core.len (ty ts t) (expr_view ts e)
expr_Len ts x t e h = rw (h, ← node.rolls-Len, fold-roll-CoreForm)

pub expr_Cap : (ts : List Ty) (x : CoreForm) (t : _) (e : _) → x ≡ node.Cap t e → expr_form_view ts x ≡ core.cap (ty ts t) (expr_view ts e)
expr_Cap ts x t e h = rw (h, ← node.rolls-Cap, fold-roll-CoreForm)

pub expr_Append : (ts : List Ty) (x : CoreForm) (t : _) (u : _) (a : _) (b : _) → x ≡ node.Append t u a b → expr_form_view ts x ≡ core.append (ty ts t) (ty ts u) (expr_view ts a) (expr_view ts b)
expr_Append ts x t u a b h = rw (h, ← node.rolls-Append, fold-roll-CoreForm)

pub expr_CopyElems : (ts : List Ty) (x : CoreForm) (t : _) (u : _) (a : _) (b : _) → x ≡ node.CopyElems t u a b → expr_form_view ts x ≡ core.copy_elems (ty ts t) (ty ts u) (expr_view ts a) (expr_view ts b)
expr_CopyElems ts x t u a b h = rw (h, ← node.rolls-CopyElems, fold-roll-CoreForm)

pub expr_MakeSlice : (ts : List Ty) (x : CoreForm) (t : _) (n : _) (c : _) → x ≡ node.MakeSlice t n c → expr_form_view ts x ≡ core.make_slice (ty ts t) (expr_view ts n) (bound_of (option_map (expr_view ts) c))
expr_MakeSlice ts x t n None h = rw (h, ← node.rolls-MakeSlice, fold-roll-CoreForm)
expr_MakeSlice ts x t n (Some c) h = rw (h, ← node.rolls-MakeSlice, fold-roll-CoreForm)

pub expr_MakeMap : (ts : List Ty) (x : CoreForm) (t : _) (c : _) → x ≡ node.MakeMap t c → expr_form_view ts x ≡ core.make_map (ty ts t) (bound_of (option_map (expr_view ts) c))
expr_MakeMap ts x t None h = rw (h, ← node.rolls-MakeMap, fold-roll-CoreForm)
expr_MakeMap ts x t (Some c) h = rw (h, ← node.rolls-MakeMap, fold-roll-CoreForm)

pub expr_MakeChan : (ts : List Ty) (x : CoreForm) (t : _) (c : _) → x ≡ node.MakeChan t c → expr_form_view ts x ≡ core.make_chan (ty ts t) (bound_of (option_map (expr_view ts) c))
expr_MakeChan ts x t None h = rw (h, ← node.rolls-MakeChan, fold-roll-CoreForm)
expr_MakeChan ts x t (Some c) h = rw (h, ← node.rolls-MakeChan, fold-roll-CoreForm)

pub expr_New : (ts : List Ty) (x : CoreForm) (t : _) → x ≡ node.New t → expr_form_view ts x ≡ core.new_ (ty ts t)
expr_New ts x t h = rw (h, ← node.rolls-New, fold-roll-CoreForm)

pub expr_Wrap : (ts : List Ty) (x : CoreForm) (u : _) (t : _) (e : _) → x ≡ node.Wrap u t e → expr_form_view ts x ≡ core.wrap (ty ts u) (ty ts t) (expr_view ts e)
expr_Wrap ts x u t e h = rw (h, ← node.rolls-Wrap, fold-roll-CoreForm)

pub expr_Assert : (ts : List Ty) (x : CoreForm) (t : _) (ok : _) (e : _) → x ≡ node.Assert t ok e → expr_form_view ts x ≡ core.assert_ (ty ts t) ok (expr_view ts e)
expr_Assert ts x t ok e h = rw (h, ← node.rolls-Assert, fold-roll-CoreForm)

pub expr_Basic : (ts : List Ty) (x : CoreForm) (t : _) (e : _) → x ≡ node.Basic t e → expr_form_view ts x ≡ core.basic (ty ts t) (expr_view ts e)
expr_Basic ts x t e h = rw (h, ← node.rolls-Basic, fold-roll-CoreForm)

pub expr_Receive : (ts : List Ty) (x : CoreForm) (t : _) (ok : _) (e : _) → x ≡ node.Receive t ok e → expr_form_view ts x ≡ core.receive (ty ts t) ok (expr_view ts e)
expr_Receive ts x t ok e h = rw (h, ← node.rolls-Receive, fold-roll-CoreForm)

pub expr_Recover : (ts : List Ty) (x : CoreForm) (t : _) → x ≡ node.Recover t → expr_form_view ts x ≡ core.recover_ (ty ts t)
expr_Recover ts x t h = rw (h, ← node.rolls-Recover, fold-roll-CoreForm)

pub expr_GateMake : (ts : List Ty) (x : CoreForm) (e : _) → x ≡ node.GateMake e → expr_form_view ts x ≡ core.gate_make (expr_view ts e)
expr_GateMake ts x e h = rw (h, ← node.rolls-GateMake, fold-roll-CoreForm)

pub expr_GateAdd : (ts : List Ty) (x : CoreForm) (a : _) (b : _) → x ≡ node.GateAdd a b → expr_form_view ts x ≡ core.gate_add (expr_view ts a) (expr_view ts b)
expr_GateAdd ts x a b h = rw (h, ← node.rolls-GateAdd, fold-roll-CoreForm)

pub expr_Let : (ts : List Ty) (x : CoreForm) (vars : _) (es : _) (e : _) → x ≡ node.Let vars es e → expr_form_view ts x ≡ core.let_in (map (var_of ts) vars.items.items) (exprs_view ts es) (expr_view ts e)
expr_Let ts x vars es e h = rw (h, ← node.rolls-Let, fold-roll-CoreForm)

pub place_Local : (ts : List Ty) (x : PlaceForm) (v : _) → x ≡ at.Local v → place_form_view ts x ≡ core.local_ v.0
place_Local ts x v h = rw (h, ← at.rolls-Local, fold-roll-PlaceForm)

pub place_Global : (ts : List Ty) (x : PlaceForm) (n : _) → x ≡ at.Global n → place_form_view ts x ≡ core.global n.0
place_Global ts x n h = rw (h, ← at.rolls-Global, fold-roll-PlaceForm)

pub place_Deref : (ts : List Ty) (x : PlaceForm) (e : _) → x ≡ at.Deref e → place_form_view ts x ≡ core.deref (expr_view ts e)
place_Deref ts x e h = rw (h, ← at.rolls-Deref, fold-roll-PlaceForm)

pub place_Field : (ts : List Ty) (x : PlaceForm) (t : _) (n : _) (p : _) → x ≡ at.Field t n p → place_form_view ts x ≡ core.field (ty ts t) n (place_view ts p)
place_Field ts x t n p h = rw (h, ← at.rolls-Field, fold-roll-PlaceForm)

pub place_Elem : (ts : List Ty) (x : PlaceForm) (t : _) (p : _) (e : _) → x ≡ at.Elem t p e → place_form_view ts x ≡ core.elem (ty ts t) (place_view ts p) (expr_view ts e)
place_Elem ts x t p e h = rw (h, ← at.rolls-Elem, fold-roll-PlaceForm)

pub place_SliceElem : (ts : List Ty) (x : PlaceForm) (t : _) (a : _) (b : _) → x ≡ at.SliceElem t a b → place_form_view ts x ≡ core.slice_elem (ty ts t) (expr_view ts a) (expr_view ts b)
place_SliceElem ts x t a b h = rw (h, ← at.rolls-SliceElem, fold-roll-PlaceForm)

pub callee_Function : (ts : List Ty) (x : Callee) (f : _) → x ≡ called.Function f → callee_view ts x ≡ core.function f.0
callee_Function ts x f h = rw (h, ← called.rolls-Function, fold-roll-Callee)

pub callee_Method : (ts : List Ty) (x : Callee) (n : _) → x ≡ called.Method n → callee_view ts x ≡ core.method (method_of ts n)
callee_Method ts x n h = rw (h, ← called.rolls-Method, fold-roll-Callee)

pub callee_Value : (ts : List Ty) (x : Callee) (e : _) → x ≡ called.Value e → callee_view ts x ≡ core.func_value (expr_view ts e)
callee_Value ts x e h = rw (h, ← called.rolls-Value, fold-roll-Callee)

pub callee_Dynamic : (ts : List Ty) (x : Callee) (name : _) (package_ : _) (e : _) → x ≡ called.Dynamic name package_ e → callee_view ts x ≡ core.dynamic name package_ (expr_view ts e)
callee_Dynamic ts x name package_ e h = rw (h, ← called.rolls-Dynamic, fold-roll-Callee)

pub stmt_Seq : (ts : List Ty) (x : CoreStmtForm) (ss : _) → x ≡ statement.Seq ss → stmt_form_view ts x ≡ core.sequence (stmts_view ts ss)
stmt_Seq ts x ss h = rw (h, ← statement.rolls-Seq, fold-roll-CoreStmtForm)

pub stmt_Perform : (ts : List Ty) (x : CoreStmtForm) (e : _) (n : _) → x ≡ statement.Perform e n → stmt_form_view ts x ≡ core.perform (expr_view ts e) n
stmt_Perform ts x e n h = rw (h, ← statement.rolls-Perform, fold-roll-CoreStmtForm)

pub stmt_Declare : (ts : List Ty) (x : CoreStmtForm) (v : _) → x ≡ statement.Declare v → stmt_form_view ts x ≡ core.declare (var_of ts v)
stmt_Declare ts x v h = rw (h, ← statement.rolls-Declare, fold-roll-CoreStmtForm)

pub stmt_Store : (ts : List Ty) (x : CoreStmtForm) (xs : _) (es : _) → x ≡ statement.Store xs es → stmt_form_view ts x ≡ core.store (map (target_view ts) xs.items.items) (exprs_view ts es)
stmt_Store ts x xs es h = rw (h, ← statement.rolls-Store, fold-roll-CoreStmtForm)

pub stmt_MapDelete : (ts : List Ty) (x : CoreStmtForm) (t : _) (e : _) (key : _) → x ≡ statement.MapDelete t e key → stmt_form_view ts x ≡ core.map_delete (ty ts t) (expr_view ts e) (expr_view ts key)
stmt_MapDelete ts x t e key h = rw (h, ← statement.rolls-MapDelete, fold-roll-CoreStmtForm)

pub stmt_If : (ts : List Ty) (x : CoreStmtForm) (e : _) (a : _) (b : _) → x ≡ statement.If e a b → stmt_form_view ts x ≡ core.if_ (expr_view ts e) (stmts_view ts a) (stmts_view ts b)
stmt_If ts x e a b h = rw (h, ← statement.rolls-If, fold-roll-CoreStmtForm)

pub stmt_Loop : (ts : List Ty) (x : CoreStmtForm) (label : _) (c : _) (body : _) (post : _) → x ≡ statement.Loop label c body post → stmt_form_view ts x ≡ core.loop label.0 (bound_of (option_map (expr_view ts) c)) (stmts_view ts body) (stmts_view ts post)
stmt_Loop ts x label c body post h = rw (h, ← statement.rolls-Loop, fold-roll-CoreStmtForm)

pub stmt_SwitchOn : (ts : List Ty) (x : CoreStmtForm) (label : _) (tests : _) (cs : _) (d : _) → x ≡ statement.SwitchOn label tests cs d → stmt_form_view ts x ≡ core.switch_on label.0 (tests_of ts tests.items.items) (clauses_view ts cs) d
stmt_SwitchOn ts x label tests cs d h = rw (h, ← statement.rolls-SwitchOn, fold-roll-CoreStmtForm)

pub stmt_RangeNext : (ts : List Ty) (x : CoreStmtForm) (label : _) (u : _) (e : _) (k : _) (v : _) (body : _) → x ≡ statement.RangeNext label u e k v body → stmt_form_view ts x ≡ core.range_over label.0 (ty ts u) (expr_view ts e) (option_var ts k) (option_var ts v) (stmts_view ts body)
stmt_RangeNext ts x label u e k v body h = rw (h, ← statement.rolls-RangeNext, fold-roll-CoreStmtForm)

pub stmt_Labeled : (ts : List Ty) (x : CoreStmtForm) (label : _) (body : _) → x ≡ statement.Labeled label body → stmt_form_view ts x ≡ core.labeled label.0 (stmts_view ts body)
stmt_Labeled ts x label body h = rw (h, ← statement.rolls-Labeled, fold-roll-CoreStmtForm)

pub stmt_Branch : (ts : List Ty) (x : CoreStmtForm) (kind : _) (label : _) → x ≡ statement.Branch kind label → stmt_form_view ts x ≡ core.branch (branch_of kind) label.0
stmt_Branch ts x kind label h = rw (h, ← statement.rolls-Branch, fold-roll-CoreStmtForm)

pub stmt_Send : (ts : List Ty) (x : CoreStmtForm) (t : _) (e : _) (v : _) → x ≡ statement.Send t e v → stmt_form_view ts x ≡ core.send (ty ts t) (expr_view ts e) (expr_view ts v)
stmt_Send ts x t e v h = rw (h, ← statement.rolls-Send, fold-roll-CoreStmtForm)

pub stmt_Close : (ts : List Ty) (x : CoreStmtForm) (e : _) → x ≡ statement.Close e → stmt_form_view ts x ≡ core.close_ (expr_view ts e)
stmt_Close ts x e h = rw (h, ← statement.rolls-Close, fold-roll-CoreStmtForm)

pub stmt_SelectStep : (ts : List Ty) (x : CoreStmtForm) (label : _) (cs : _) (d : _) (body : _) → x ≡ statement.SelectStep label cs d body → stmt_form_view ts x ≡ core.select_step label.0 (cases_view ts cs) d (stmts_view ts body)
stmt_SelectStep ts x label cs d body h = rw (h, ← statement.rolls-SelectStep, fold-roll-CoreStmtForm)

pub stmt_GateTake : (ts : List Ty) (x : CoreStmtForm) (e : _) → x ≡ statement.GateTake e → stmt_form_view ts x ≡ core.gate_take (expr_view ts e)
stmt_GateTake ts x e h = rw (h, ← statement.rolls-GateTake, fold-roll-CoreStmtForm)

pub stmt_GateAwait : (ts : List Ty) (x : CoreStmtForm) (e : _) → x ≡ statement.GateAwait e → stmt_form_view ts x ≡ core.gate_await (expr_view ts e)
stmt_GateAwait ts x e h = rw (h, ← statement.rolls-GateAwait, fold-roll-CoreStmtForm)

pub stmt_Yield : (ts : List Ty) (x : CoreStmtForm) → x ≡ statement.Yield → stmt_form_view ts x ≡ core.yield_
stmt_Yield ts x h = rw (h, ← statement.rolls-Yield, fold-roll-CoreStmtForm)

pub stmt_GoCall : (ts : List Ty) (x : CoreStmtForm) (callee : _) (es : _) → x ≡ statement.GoCall callee es → stmt_form_view ts x ≡ core.go_call (callee_view ts callee) (exprs_view ts es)
stmt_GoCall ts x callee es h = rw (h, ← statement.rolls-GoCall, fold-roll-CoreStmtForm)

pub stmt_DeferCall : (ts : List Ty) (x : CoreStmtForm) (callee : _) (es : _) → x ≡ statement.DeferCall callee es → stmt_form_view ts x ≡ core.defer_call (callee_view ts callee) (exprs_view ts es)
stmt_DeferCall ts x callee es h = rw (h, ← statement.rolls-DeferCall, fold-roll-CoreStmtForm)

pub stmt_Return : (ts : List Ty) (x : CoreStmtForm) (es : _) → x ≡ statement.Return es → stmt_form_view ts x ≡ core.return_ (exprs_view ts es)
stmt_Return ts x es h = rw (h, ← statement.rolls-Return, fold-roll-CoreStmtForm)

pub stmt_Panic : (ts : List Ty) (x : CoreStmtForm) (e : _) → x ≡ statement.Panic e → stmt_form_view ts x ≡ core.panic_ (expr_view ts e)
stmt_Panic ts x e h = rw (h, ← statement.rolls-Panic, fold-roll-CoreStmtForm)

pub stmt_Print : (ts : List Ty) (x : CoreStmtForm) (es : _) (l : _) → x ≡ statement.Print es l → stmt_form_view ts x ≡ core.print (exprs_view ts es) l
stmt_Print ts x es l h = rw (h, ← statement.rolls-Print, fold-roll-CoreStmtForm)

pub stmt_Exit : (ts : List Ty) (x : CoreStmtForm) (e : _) → x ≡ statement.Exit e → stmt_form_view ts x ≡ core.exit_ (expr_view ts e)
stmt_Exit ts x e h = rw (h, ← statement.rolls-Exit, fold-roll-CoreStmtForm)

pub stmt_Fatal : (ts : List Ty) (x : CoreStmtForm) (e : _) → x ≡ statement.Fatal e → stmt_form_view ts x ≡ core.fatal_ (expr_view ts e)
stmt_Fatal ts x e h = rw (h, ← statement.rolls-Fatal, fold-roll-CoreStmtForm)
