-- The tree that an expression of a form stands for, by its parts.
use Rattle.std.proofs.Common.{◌≡◌, ◌∙◌, sym, ap, rules, map}
use Rattle.std.specs.Prelude.{Some, None, option_map}
use Rattle.go_syntax.specs.Tree.{NameExpr, IntExpr, RuneExpr, StrExpr, ParenExpr, UnaryExpr, BinaryExpr, SelectExpr, IndexExpr, SliceExpr, AssertExpr, CallExpr, LiteralExpr, FuncExpr, ArrayType, SliceType, StructType, FuncType, InterfaceType, MapType, ChanType, NoFields, NoMembers, NoElems}
use Rattle.go_syntax.specs.View.{expr_view, expr_form_view, exprs_of, maybe_expr, elem_view, sig_view, block_view, field_view, member_view, joined}
use Rattle.go_syntax.specs.declared.tree.Expr.{Expr, fold_out-Expr}
use Rattle.go_syntax.specs.declared.tree.ExprForm.{ExprForm, fold-roll-ExprForm}
use Rattle.go_syntax.specs.declared.tree.ExprForm.TheVariants as form

expr_whole : (e : Expr) → expr_view e ≡ expr_form_view e.form.value e.place
expr_whole e = search (rules, fold_out-Expr)

view_of : (e : Expr) (x f : ExprForm) → x ≡ e.form.value → x ≡ f → expr_view e ≡ expr_form_view f e.place
view_of e x f p h = expr_whole e ∙ ap (λ (g : ExprForm). expr_form_view g e.place) (sym p ∙ h)

pub view_Name : (e : Expr) (x : ExprForm) (n : _) → x ≡ e.form.value → x ≡ form.Name n → expr_view e ≡ NameExpr e.place n
view_Name e x n p h = view_of e x _ p h ∙ rw (← form.rolls-Name, fold-roll-ExprForm)

pub view_Int : (e : Expr) (x : ExprForm) (n : _) → x ≡ e.form.value → x ≡ form.Int n → expr_view e ≡ IntExpr e.place n
view_Int e x n p h = view_of e x _ p h ∙ rw (← form.rolls-Int, fold-roll-ExprForm)

pub view_Rune : (e : Expr) (x : ExprForm) (n : _) → x ≡ e.form.value → x ≡ form.Rune n → expr_view e ≡ RuneExpr e.place n
view_Rune e x n p h = view_of e x _ p h ∙ rw (← form.rolls-Rune, fold-roll-ExprForm)

pub view_Str : (e : Expr) (x : ExprForm) (n : _) → x ≡ e.form.value → x ≡ form.Str n → expr_view e ≡ StrExpr e.place n
view_Str e x n p h = view_of e x _ p h ∙ rw (← form.rolls-Str, fold-roll-ExprForm)

pub view_Paren : (e : Expr) (x : ExprForm) (a : Expr) → x ≡ e.form.value → x ≡ form.Paren a → expr_view e ≡ ParenExpr e.place (expr_view a)
view_Paren e x a p h = view_of e x _ p h ∙ rw (← form.rolls-Paren, fold-roll-ExprForm)

pub view_Unary : (e : Expr) (x : ExprForm) (op : _) (a : Expr) → x ≡ e.form.value → x ≡ form.Unary op a → expr_view e ≡ UnaryExpr e.place op (expr_view a)
view_Unary e x op a p h = view_of e x _ p h ∙ rw (← form.rolls-Unary, fold-roll-ExprForm)

pub view_Binary : (e : Expr) (x : ExprForm) (a : Expr) (op : _) (b : Expr) → x ≡ e.form.value → x ≡ form.Binary a op b → expr_view e ≡ BinaryExpr e.place (expr_view a) op (expr_view b)
view_Binary e x a op b p h = view_of e x _ p h ∙ rw (← form.rolls-Binary, fold-roll-ExprForm)

pub view_Select : (e : Expr) (x : ExprForm) (a : Expr) (n : _) → x ≡ e.form.value → x ≡ form.Select a n → expr_view e ≡ SelectExpr e.place (expr_view a) n
view_Select e x a n p h = view_of e x _ p h ∙ rw (← form.rolls-Select, fold-roll-ExprForm)

pub view_Index : (e : Expr) (x : ExprForm) (a b : Expr) → x ≡ e.form.value → x ≡ form.Index a b → expr_view e ≡ IndexExpr e.place (expr_view a) (expr_view b)
view_Index e x a b p h = view_of e x _ p h ∙ rw (← form.rolls-Index, fold-roll-ExprForm)

pub view_Assert : (e : Expr) (x : ExprForm) (a b : Expr) → x ≡ e.form.value → x ≡ form.Assert a b → expr_view e ≡ AssertExpr e.place (expr_view a) (expr_view b)
view_Assert e x a b p h = view_of e x _ p h ∙ rw (← form.rolls-Assert, fold-roll-ExprForm)

pub view_Call : (e : Expr) (x : ExprForm) (f : Expr) (args : _) (spread : _) → x ≡ e.form.value → x ≡ form.Call f args spread → expr_view e ≡ CallExpr e.place (expr_view f) (exprs_of (map expr_view args.items)) spread
view_Call e x f args spread p h = view_of e x _ p h ∙ rw (← form.rolls-Call, fold-roll-ExprForm)

pub view_Func : (e : Expr) (x : ExprForm) (sig : _) (b : _) → x ≡ e.form.value → x ≡ form.Func sig b → expr_view e ≡ FuncExpr e.place (sig_view sig) (block_view b)
view_Func e x sig b p h = view_of e x _ p h ∙ rw (← form.rolls-Func, fold-roll-ExprForm)

pub view_SliceT : (e : Expr) (x : ExprForm) (a : Expr) → x ≡ e.form.value → x ≡ form.SliceT a → expr_view e ≡ SliceType e.place (expr_view a)
view_SliceT e x a p h = view_of e x _ p h ∙ rw (← form.rolls-SliceT, fold-roll-ExprForm)

pub view_StructT : (e : Expr) (x : ExprForm) (fs : _) → x ≡ e.form.value → x ≡ form.StructT fs → expr_view e ≡ StructType e.place (joined (map field_view fs.items) NoFields)
view_StructT e x fs p h = view_of e x _ p h ∙ rw (← form.rolls-StructT, fold-roll-ExprForm)

pub view_FuncT : (e : Expr) (x : ExprForm) (sig : _) → x ≡ e.form.value → x ≡ form.FuncT sig → expr_view e ≡ FuncType e.place (sig_view sig)
view_FuncT e x sig p h = view_of e x _ p h ∙ rw (← form.rolls-FuncT, fold-roll-ExprForm)

pub view_InterfaceT : (e : Expr) (x : ExprForm) (ms : _) → x ≡ e.form.value → x ≡ form.InterfaceT ms → expr_view e ≡ InterfaceType e.place (joined (map member_view ms.items) NoMembers)
view_InterfaceT e x ms p h = view_of e x _ p h ∙ rw (← form.rolls-InterfaceT, fold-roll-ExprForm)

pub view_MapT : (e : Expr) (x : ExprForm) (a b : Expr) → x ≡ e.form.value → x ≡ form.MapT a b → expr_view e ≡ MapType e.place (expr_view a) (expr_view b)
view_MapT e x a b p h = view_of e x _ p h ∙ rw (← form.rolls-MapT, fold-roll-ExprForm)

pub view_ChanT : (e : Expr) (x : ExprForm) (d : _) (a : Expr) → x ≡ e.form.value → x ≡ form.ChanT d a → expr_view e ≡ ChanType e.place d (expr_view a)
view_ChanT e x d a p h = view_of e x _ p h ∙ rw (← form.rolls-ChanT, fold-roll-ExprForm)

pub view_Slice : (e : Expr) (x : ExprForm) (a : Expr) (low : _) (high : _) (most : _) → x ≡ e.form.value → x ≡ form.Slice a low high most
    → expr_view e ≡ SliceExpr e.place (expr_view a) (maybe_expr (option_map expr_view low)) (maybe_expr (option_map expr_view high)) (maybe_expr (option_map expr_view most))
view_Slice e x a None None None p h = view_of e x _ p h ∙ rw (← form.rolls-Slice, fold-roll-ExprForm)
view_Slice e x a None None (Some most) p h = view_of e x _ p h ∙ rw (← form.rolls-Slice, fold-roll-ExprForm)
view_Slice e x a None (Some high) None p h = view_of e x _ p h ∙ rw (← form.rolls-Slice, fold-roll-ExprForm)
view_Slice e x a None (Some high) (Some most) p h = view_of e x _ p h ∙ rw (← form.rolls-Slice, fold-roll-ExprForm)
view_Slice e x a (Some low) None None p h = view_of e x _ p h ∙ rw (← form.rolls-Slice, fold-roll-ExprForm)
view_Slice e x a (Some low) None (Some most) p h = view_of e x _ p h ∙ rw (← form.rolls-Slice, fold-roll-ExprForm)
view_Slice e x a (Some low) (Some high) None p h = view_of e x _ p h ∙ rw (← form.rolls-Slice, fold-roll-ExprForm)
view_Slice e x a (Some low) (Some high) (Some most) p h = view_of e x _ p h ∙ rw (← form.rolls-Slice, fold-roll-ExprForm)

pub view_Literal : (e : Expr) (x : ExprForm) (t : _) (es : _) → x ≡ e.form.value → x ≡ form.Literal t es → expr_view e ≡ LiteralExpr e.place (maybe_expr (option_map expr_view t)) (joined (map elem_view es.items) NoElems)
view_Literal e x None es p h = view_of e x _ p h ∙ rw (← form.rolls-Literal, fold-roll-ExprForm)
view_Literal e x (Some t) es p h = view_of e x _ p h ∙ rw (← form.rolls-Literal, fold-roll-ExprForm)

pub view_ArrayT : (e : Expr) (x : ExprForm) (n : _) (a : Expr) → x ≡ e.form.value → x ≡ form.ArrayT n a → expr_view e ≡ ArrayType e.place (maybe_expr (option_map expr_view n)) (expr_view a)
view_ArrayT e x None a p h = view_of e x _ p h ∙ rw (← form.rolls-ArrayT, fold-roll-ExprForm)
view_ArrayT e x (Some n) a p h = view_of e x _ p h ∙ rw (← form.rolls-ArrayT, fold-roll-ExprForm)
