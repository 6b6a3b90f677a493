-- One parameter more, from the last to the first.
use Rattle.std.proofs.Common.{rules, ◌≡◌, ◌∙◌, refl, ap, [], ◌∷◌, true, false}
use Rattle.std.specs.Prelude.{Option, Some, None}
use Rattle.gj_base.specs.declared.place.Place.{Place}
use Rattle.go_syntax.specs.Tree as tree
use Rattle.go_syntax.specs.View.{expr_view, expr_step, param_view, params_view, results_view, sig_view}
use Rattle.go_syntax.specs.declared.tree.DeclForm.TheOpen.{ExprForm-F}
use Rattle.go_syntax.specs.declared.tree.Expr.{Expr, fold_out-Expr}
use Rattle.go_syntax.specs.declared.tree.ExprForm.{fold_out-ExprForm}
use Rattle.go_syntax.specs.declared.tree.Name.{Name}
use Rattle.go_syntax.specs.declared.tree.Param.{Param, out-Param, fold_out-Param}
use Rattle.go_syntax.specs.declared.tree.Results.{Results, fold-roll-Results}
use Rattle.go_syntax.specs.declared.tree.Results.TheVariants as results
use Rattle.go_syntax.specs.declared.tree.Sig.{Sig, out-Sig, fold_out-Sig}
use Rattle.go_typing.specs.Signature as go
use Rattle.go_typing.specs.Signature.{alone, grouped, next_named, results_in, results_of}
use Rattle.go_typing.specs.Typing.{place_of}

pub param_whole : (p : Param) (rest : tree.Params) → param_view p rest ≡ tree.MoreParams (out-Param p).place (out-Param p).name (out-Param p).variadic (expr_view (out-Param p).ty) rest
param_whole p rest = search (rules, fold_out-Param)

module _ (p : Param) (rest : tree.Params) where
  abbrev as_written : Option Name → tree.Params
  as_written n = tree.MoreParams (out-Param p).place n (out-Param p).variadic (expr_view (out-Param p).ty) rest

  by_name : (n : Option Name) → (out-Param p).name ≡ n → param_view p rest ≡ as_written n
  by_name n h = param_whole p rest ∙ ap as_written h

  pub with_name : (n : Name) → (out-Param p).name ≡ Some n
      → grouped (param_view p rest) ≡ record { place = (out-Param p).place; name = Some n; variadic = (out-Param p).variadic; type_ = expr_view (out-Param p).ty; has_type = true } ∷ grouped rest
  with_name n h = ap grouped (by_name (Some n) h)

  pub without_name : (out-Param p).name ≡ None → grouped (param_view p rest) ≡ alone (out-Param p).place (out-Param p).variadic (expr_view (out-Param p).ty) (next_named rest) ∷ grouped rest
  without_name h = ap grouped (by_name None h)

  pub next_is : (n : Name) → (out-Param p).name ≡ Some n → next_named (param_view p rest) ≡ Some (record { variadic = (out-Param p).variadic; type_ = expr_view (out-Param p).ty })
  next_is n h = ap next_named (by_name (Some n) h)

  pub next_stays : (out-Param p).name ≡ None → next_named (param_view p rest) ≡ next_named rest
  next_stays h = ap next_named (by_name None h)

-- alone, where nothing follows that has a name and a type, it is a type
pub type_alone : (at : Place) (e : tree.Expr) → alone at false e None ≡ record { place = at; name = None; variadic = false; type_ = e; has_type = true }
type_alone at (tree.NameExpr p x) = refl
type_alone at (tree.IntExpr p x) = refl
type_alone at (tree.RuneExpr p x) = refl
type_alone at (tree.StrExpr p x) = refl
type_alone at (tree.ParenExpr p x) = refl
type_alone at (tree.UnaryExpr p op x) = refl
type_alone at (tree.BinaryExpr p x op y) = refl
type_alone at (tree.SelectExpr p x m) = refl
type_alone at (tree.IndexExpr p x i) = refl
type_alone at (tree.SliceExpr p x low high most) = refl
type_alone at (tree.AssertExpr p x t) = refl
type_alone at (tree.CallExpr p f xs spread) = refl
type_alone at (tree.LiteralExpr p t es) = refl
type_alone at (tree.FuncExpr p s b) = refl
type_alone at (tree.ArrayType p m t) = refl
type_alone at (tree.SliceType p t) = refl
type_alone at (tree.StructType p fs) = refl
type_alone at (tree.FuncType p s) = refl
type_alone at (tree.InterfaceType p ms) = refl
type_alone at (tree.MapType p k t) = refl
type_alone at (tree.ChanType p d t) = refl

-- ---- the place of an expression is that of its node

step_place :
    (l : ExprForm-F (Place → tree.Decl) (Place → tree.Expr) (tree.Fields → tree.Fields) (tree.Members → tree.Members) tree.Results (Place → tree.Stmt)
    tree.Block (tree.Clauses → tree.Clauses) (tree.Comms → tree.Comms) tree.Decl (tree.Elems → tree.Elems) tree.Expr (tree.Params → tree.Params) (Place × tree.Params) tree.Sig tree.Stmt (tree.TypeSpecs → tree.TypeSpecs) (tree.ValueSpecs → tree.ValueSpecs))
    (at : Place) → place_of (expr_step l at) ≡ at
step_place (ExprForm-F.Name text) at = refl
step_place (ExprForm-F.Int text) at = refl
step_place (ExprForm-F.Rune text) at = refl
step_place (ExprForm-F.Str text) at = refl
step_place (ExprForm-F.Paren x) at = refl
step_place (ExprForm-F.Unary op x) at = refl
step_place (ExprForm-F.Binary x op y) at = refl
step_place (ExprForm-F.«ExprForm::Select» x name) at = refl
step_place (ExprForm-F.Index x i) at = refl
step_place (ExprForm-F.Slice x low high most) at = refl
step_place (ExprForm-F.Assert x ty) at = refl
step_place (ExprForm-F.Call f args spread) at = refl
step_place (ExprForm-F.Literal ty elems) at = refl
step_place (ExprForm-F.«ExprForm::Func» sig block) at = refl
step_place (ExprForm-F.ArrayT n ty) at = refl
step_place (ExprForm-F.SliceT ty) at = refl
step_place (ExprForm-F.StructT fields) at = refl
step_place (ExprForm-F.FuncT sig) at = refl
step_place (ExprForm-F.InterfaceT members) at = refl
step_place (ExprForm-F.MapT key ty) at = refl
step_place (ExprForm-F.ChanT dir ty) at = refl

pub place_is : (e : Expr) → place_of (expr_view e) ≡ e.place
place_is e = rw (fold_out-Expr, fold_out-ExprForm) (step_place _ _)

-- ---- one result without parentheses

sig_whole : (s : Sig) → sig_view s ≡ tree.SigOf (params_view (out-Sig s).params).0 (params_view (out-Sig s).params).1 (results_view (out-Sig s).results)
sig_whole s = search (rules, fold_out-Sig)

pub one_result : (s : Sig) (ty : Expr) → (out-Sig s).results ≡ results.Type ty
    → results_of (sig_view s) ≡ record { place = ty.place; name = None; variadic = false; type_ = expr_view ty; has_type = true } ∷ []
one_result s ty h =
    ap results_of (sig_whole s)
    ∙ ap (λ (r : Results). results_in (results_view r)) h
    ∙ rw (← results.rolls-Type, fold-roll-Results)
    (ap (λ (at : Place). alone at false (expr_view ty) None ∷ []) (place_is ty) ∙ ap (λ (g : go.Param). g ∷ []) (type_alone ty.place (expr_view ty)))
