-- Whether an expression is a call of a function.
use Rattle.std.proofs.Common.{◌≡◌, ◌∙◌, sym, ap, refl, rules, ℕ, List, Bool, true, false}
use Rattle.std.specs.Prelude.{Option, Some, None, if◌then◌else◌}
use Rattle.go_syntax.specs.Tree.{NameExpr, IntExpr, RuneExpr, StrExpr, ParenExpr, UnaryExpr, BinaryExpr, SelectExpr, IndexExpr, SliceExpr, AssertExpr, CallExpr, LiteralExpr, FuncExpr, ArrayType, SliceType, StructType, FuncType, InterfaceType, MapType, ChanType}
use Rattle.go_syntax.specs.Tree as t
use Rattle.go_syntax.specs.View.{expr_view, expr_form_view}
use Rattle.go_syntax.specs.declared.tree.Expr.{Expr, fold_out-Expr}
use Rattle.go_syntax.specs.declared.tree.ExprForm.{ExprForm, fold-roll-ExprForm}
use Rattle.go_syntax.specs.declared.tree.ExprForm.TheVariants as form
use Rattle.go_typing.specs.Env.{Bind, lookup, is_blank}
use Rattle.go_typing.specs.Typing.{by_value, declared_callee, callee_of}
use Rattle.go_calls.specs.Called.{name_in, callee_named}
use Rattle.go_typing.specs.Walk as go
use Rattle.go_typing.specs.Statements.{called_in}
use Rattle.go_define.specs.SimpleTold.{is_function}

by_name : (ss : List (List Bind)) (e : t.Expr) → callee_of ss e ≡ callee_named ss (name_in e)
by_name ss (NameExpr at x) = by (is_blank x)
  where
    by : (b : Bool) → (if b then by_value else declared_callee (lookup x ss)) ≡ callee_named ss (if b then None else Some x)
    by true = refl
    by false = refl
by_name ss (ParenExpr at x) = by_name ss x
by_name ss (IntExpr at x) = refl
by_name ss (RuneExpr at x) = refl
by_name ss (StrExpr at x) = refl
by_name ss (UnaryExpr at op x) = refl
by_name ss (BinaryExpr at x op y) = refl
by_name ss (SelectExpr at x n) = refl
by_name ss (IndexExpr at x i) = refl
by_name ss (SliceExpr at x low high most) = refl
by_name ss (AssertExpr at x t) = refl
by_name ss (CallExpr at f xs spread) = refl
by_name ss (LiteralExpr at t es) = refl
by_name ss (FuncExpr at sig b) = refl
by_name ss (ArrayType at n t) = refl
by_name ss (SliceType at t) = refl
by_name ss (StructType at fs) = refl
by_name ss (FuncType at sig) = refl
by_name ss (InterfaceType at ms) = refl
by_name ss (MapType at k t) = refl
by_name ss (ChanType at d t) = refl

pub function_named : (ss : List (List Bind)) (e : t.Expr) (x : List ℕ) (b : Bool) → Some x ≡ name_in e → b ≡ is_function (declared_callee (lookup x ss)) → b ≡ is_function (callee_of ss e)
function_named ss e x b p h = h ∙ ap (λ (o : Option (List ℕ)). is_function (callee_named ss o)) p ∙ ap is_function (sym (by_name ss e))

pub not_named : (ss : List (List Bind)) (e : t.Expr) → None ≡ name_in e → false ≡ is_function (callee_of ss e)
not_named ss e p = ap (λ (o : Option (List ℕ)). is_function (callee_named ss o)) p ∙ ap is_function (sym (by_name ss e))

expr_whole : (e : Expr) → expr_view e ≡ expr_form_view e.form.value e.place
expr_whole e = search (rules, fold_out-Expr)

-- what is called by a call
pub called_by : (w : go.Walk) (e : Expr) (x : ExprForm) (f : Expr) (args : _) (spread : Bool) → x ≡ e.form.value → x ≡ form.Call f args spread → called_in w (expr_view e) ≡ callee_of w.scopes (expr_view f)
called_by w e x f args spread p h =
    ap (called_in w) (expr_whole e) ∙ ap (λ (g : ExprForm). called_in w (expr_form_view g e.place)) (sym p ∙ h) ∙ rw (← form.rolls-Call, fold-roll-ExprForm)

-- what is called in parentheses
pub called_within : (w : go.Walk) (e : Expr) (x : ExprForm) (y : Expr) → x ≡ e.form.value → x ≡ form.Paren y → called_in w (expr_view e) ≡ called_in w (expr_view y)
called_within w e x y p h =
    ap (called_in w) (expr_whole e) ∙ ap (λ (g : ExprForm). called_in w (expr_form_view g e.place)) (sym p ∙ h) ∙ rw (← form.rolls-Paren, fold-roll-ExprForm)
