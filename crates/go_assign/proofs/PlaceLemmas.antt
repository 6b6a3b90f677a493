-- The place of an expression is that of its node.
use Rattle.std.proofs.Common.{◌≡◌, refl, sym}
use Rattle.gj_base.specs.declared.place.Place.{Place}
use Rattle.go_syntax.specs.Tree as tree
use Rattle.go_syntax.specs.View.{expr_view, expr_step}
use Rattle.go_syntax.specs.declared.tree.DeclForm.TheOpen.{ExprForm-F}
use Rattle.go_syntax.specs.declared.tree.Expr.{Expr, fold_out-Expr}
use Rattle.go_syntax.specs.declared.tree.ExprForm.{fold_out-ExprForm}
use Rattle.go_typing.specs.Typing.{place_of}

step_place :
    (l : ExprForm-F (Place → tree.Decl) (Place → tree.Expr) (tree.Fields → tree.Fields) (tree.Members → tree.Members) tree.Results (Place → tree.Stmt)
    tree.Block (tree.Clauses → tree.Clauses) (tree.Comms → tree.Comms) tree.Decl (tree.Elems → tree.Elems) tree.Expr (tree.Params → tree.Params) (Place × tree.Params) tree.Sig tree.Stmt (tree.TypeSpecs → tree.TypeSpecs) (tree.ValueSpecs → tree.ValueSpecs))
    (at : Place) → place_of (expr_step l at) ≡ at
step_place (ExprForm-F.Name text) at = refl
step_place (ExprForm-F.Int text) at = refl
step_place (ExprForm-F.Rune text) at = refl
step_place (ExprForm-F.Str text) at = refl
step_place (ExprForm-F.Paren x) at = refl
step_place (ExprForm-F.Unary op x) at = refl
step_place (ExprForm-F.Binary x op y) at = refl
step_place (ExprForm-F.«ExprForm::Select» x name) at = refl
step_place (ExprForm-F.Index x i) at = refl
step_place (ExprForm-F.Slice x low high most) at = refl
step_place (ExprForm-F.Assert x ty) at = refl
step_place (ExprForm-F.Call f args spread) at = refl
step_place (ExprForm-F.Literal ty elems) at = refl
step_place (ExprForm-F.«ExprForm::Func» sig block) at = refl
step_place (ExprForm-F.ArrayT n ty) at = refl
step_place (ExprForm-F.SliceT ty) at = refl
step_place (ExprForm-F.StructT fields) at = refl
step_place (ExprForm-F.FuncT sig) at = refl
step_place (ExprForm-F.InterfaceT members) at = refl
step_place (ExprForm-F.MapT key ty) at = refl
step_place (ExprForm-F.ChanT dir ty) at = refl

pub place_is : (e : Expr) → place_of (expr_view e) ≡ e.place
place_is e = rw (fold_out-Expr, fold_out-ExprForm) (step_place _ _)

pub stands : (e : Expr) → e.place ≡ place_of (expr_view e)
stands e = sym (place_is e)
