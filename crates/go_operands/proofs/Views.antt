-- The trees of nodes, over the trees of their parts, and what a node of a form stands for.
use Rattle.std.specs.Prelude.{◌≡◌, List, Bool, Result, Ok, Err, IfOk}
use Rattle.std.proofs.Common.{◌∙◌}
use Rattle.gj_base.specs.declared.kind.Op.{Op}
use Rattle.go_type.specs.Tree.{Ty}
use Rattle.go_type.specs.Levels.{tree_of, trees_of}
use Rattle.go_type.specs.declared.types.TypeId.{TypeId}
use Rattle.go_core.specs.CoreTree as core
use Rattle.go_core.specs.CoreView.{expr_view, expr_form_view, exprs_view, place_view, place_form_view, stmt_view, stmt_form_view, constant_of}
use Rattle.go_core.specs.declared.node.Callee.{fold-roll-Callee}
use Rattle.go_core.specs.declared.node.Callee.TheVariants as called
use Rattle.go_core.specs.declared.node.Constant.{Constant}
use Rattle.go_core.specs.declared.node.CoreExpr.{CoreExpr}
use Rattle.go_core.specs.declared.node.CoreForm.{CoreForm, fold-roll-CoreForm}
use Rattle.go_core.specs.declared.node.CoreForm.TheVariants as node
use Rattle.go_core.specs.declared.node.CorePlace.{CorePlace}
use Rattle.go_core.specs.declared.node.PlaceForm.{fold-roll-PlaceForm}
use Rattle.go_core.specs.declared.node.PlaceForm.TheVariants as at
use Rattle.go_core.specs.declared.statement.CoreStmt.{CoreStmt}
use Rattle.go_core.specs.declared.statement.CoreStmtForm.{CoreStmtForm, fold-roll-CoreStmtForm}
use Rattle.go_core.specs.declared.statement.CoreStmtForm.TheVariants as statement

pub expr_made : {E : Type 0} (r : Result CoreExpr E) (f : CoreForm) (x : List Ty → core.Expr) → ((ts : List Ty) → expr_form_view ts f ≡ x ts)
    → IfOk r (λ e. (ts : List Ty) → expr_view ts e ≡ expr_form_view ts f) → IfOk r (λ e. (ts : List Ty) → expr_view ts e ≡ x ts)
expr_made (Ok e) f x h k = λ ts. k ts ∙ h ts
expr_made (Err e) f x h k = k

pub stmt_made : {E : Type 0} (r : Result CoreStmt E) (f : CoreStmtForm) (x : List Ty → core.Stmt) → ((ts : List Ty) → stmt_form_view ts f ≡ x ts)
    → IfOk r (λ s. (ts : List Ty) → stmt_view ts s ≡ stmt_form_view ts f) → IfOk r (λ s. (ts : List Ty) → stmt_view ts s ≡ x ts)
stmt_made (Ok s) f x h k = λ ts. k ts ∙ h ts
stmt_made (Err e) f x h k = k

pub constant_view : (ts : List Ty) (t : _) (k : Constant) → expr_form_view ts (node.Const t k) ≡ core.constant (tree_of ts t) (constant_of k)
constant_view ts t k = rw (← node.rolls-Const, fold-roll-CoreForm)

pub zero_view : (ts : List Ty) (t : TypeId) → expr_form_view ts (node.Zero t) ≡ core.zero_value (tree_of ts t)
zero_view ts t = rw (← node.rolls-Zero, fold-roll-CoreForm)

pub read_view : (ts : List Ty) (t : TypeId) (p : CorePlace) → expr_form_view ts (node.Read t p) ≡ core.read (tree_of ts t) (place_view ts p)
read_view ts t p = rw (← node.rolls-Read, fold-roll-CoreForm)

pub local_view : (ts : List Ty) (v : _) → place_form_view ts (at.Local v) ≡ core.local_ v.0
local_view ts v = rw (← at.rolls-Local, fold-roll-PlaceForm)

pub global_view : (ts : List Ty) (n : _) → place_form_view ts (at.Global n) ≡ core.global n.0
global_view ts n = rw (← at.rolls-Global, fold-roll-PlaceForm)

pub not_view : (ts : List Ty) (t : TypeId) (e : CoreExpr) → expr_form_view ts (node.Not t e) ≡ core.not_ (tree_of ts t) (expr_view ts e)
not_view ts t e = rw (← node.rolls-Not, fold-roll-CoreForm)

pub unary_view : (ts : List Ty) (op : Op) (t : TypeId) (e : CoreExpr) → expr_form_view ts (node.Unary op t e) ≡ core.unary op (tree_of ts t) (expr_view ts e)
unary_view ts op t e = rw (← node.rolls-Unary, fold-roll-CoreForm)

pub convert_view : (ts : List Ty) (u t : TypeId) (e : CoreExpr) → expr_form_view ts (node.Convert u t e) ≡ core.convert (tree_of ts u) (tree_of ts t) (expr_view ts e)
convert_view ts u t e = rw (← node.rolls-Convert, fold-roll-CoreForm)

pub len_view : (ts : List Ty) (t : TypeId) (e : CoreExpr) → expr_form_view ts (node.Len t e) ≡ core.len (tree_of ts t) (expr_view ts e)
len_view ts t e = rw (← node.rolls-Len, fold-roll-CoreForm)

pub binary_view : (ts : List Ty) (op : Op) (t : TypeId) (a b : CoreExpr) → expr_form_view ts (node.Binary op t a b) ≡ core.binary op (tree_of ts t) (expr_view ts a) (expr_view ts b)
binary_view ts op t a b = rw (← node.rolls-Binary, fold-roll-CoreForm)

pub concat_view : (ts : List Ty) (t : TypeId) (a b : CoreExpr) → expr_form_view ts (node.Concat t a b) ≡ core.concat (tree_of ts t) (expr_view ts a) (expr_view ts b)
concat_view ts t a b = rw (← node.rolls-Concat, fold-roll-CoreForm)

pub equal_view : (ts : List Ty) (n : Bool) (u t : TypeId) (a b : CoreExpr) → expr_form_view ts (node.Equal n u t a b) ≡ core.equal n (tree_of ts u) (tree_of ts t) (expr_view ts a) (expr_view ts b)
equal_view ts n u t a b = rw (← node.rolls-Equal, fold-roll-CoreForm)

pub less_view : (ts : List Ty) (op : Op) (u t : TypeId) (a b : CoreExpr) → expr_form_view ts (node.Less op u t a b) ≡ core.less op (tree_of ts u) (tree_of ts t) (expr_view ts a) (expr_view ts b)
less_view ts op u t a b = rw (← node.rolls-Less, fold-roll-CoreForm)

pub and_then_view : (ts : List Ty) (t : TypeId) (a b : CoreExpr) → expr_form_view ts (node.AndThen t a b) ≡ core.and_then (tree_of ts t) (expr_view ts a) (expr_view ts b)
and_then_view ts t a b = rw (← node.rolls-AndThen, fold-roll-CoreForm)

pub or_else_view : (ts : List Ty) (t : TypeId) (a b : CoreExpr) → expr_form_view ts (node.OrElse t a b) ≡ core.or_else (tree_of ts t) (expr_view ts a) (expr_view ts b)
or_else_view ts t a b = rw (← node.rolls-OrElse, fold-roll-CoreForm)

pub byte_at_view : (ts : List Ty) (a b : CoreExpr) → expr_form_view ts (node.ByteAt a b) ≡ core.byte_at (expr_view ts a) (expr_view ts b)
byte_at_view ts a b = rw (← node.rolls-ByteAt, fold-roll-CoreForm)

pub call_view : (ts : List Ty) (results : _) (f : _) (es : _) → expr_form_view ts (node.Call results (called.Function f) es) ≡ core.call (trees_of ts results) (core.function f.0) (exprs_view ts es)
call_view ts results f es = rw (← node.rolls-Call, fold-roll-CoreForm, ← called.rolls-Function, fold-roll-Callee)

pub print_view : (ts : List Ty) (es : _) (l : Bool) → stmt_form_view ts (statement.Print es l) ≡ core.print (exprs_view ts es) l
print_view ts es l = rw (← statement.rolls-Print, fold-roll-CoreStmtForm)
