-- What the form of an expression is not.
use Rattle.std.proofs.Common.{◌≡◌, ◌∙◌, refl, sym, ℕ, false, Box, Global}
use Rattle.js_tree.specs.View.{expr_view}
use Rattle.js_tree.specs.declared.tree.JsExpr.{JsExpr, fold_out-JsExpr}
use Rattle.js_tree.specs.declared.tree.JsExprs.{JsExprs}
use Rattle.js_tree.specs.declared.tree.ExprForm.{ExprForm, ExprForm-F, Index, Call, Pop, fold-roll-ExprForm, out-ExprForm, roll-ExprForm, roll-out-ExprForm}
use Rattle.js_tree.specs.declared.tree.ExprForm.TheVariants as form
use Rattle.js_tree.specs.Script.{Expr, index, perform}
use Rattle.js_tree.specs.Printable.{is_call}
use Rattle.js_grammar.specs.Steps.{is_index, store_of, remove_of}

layer : (x : ExprForm-F ExprForm JsExpr JsExprs) (e : JsExpr) → e.form ≡ roll-ExprForm x → ((a b : Box JsExpr Global) → e.form ≡ Index a b → ⊥) → is_index (expr_view e) ≡ false
layer (ExprForm-F.Index a b) e q h = absurd (h a b (q ∙ form.rolls-Index a b))
layer x e q h = rw (fold_out-JsExpr, q, fold-roll-ExprForm)

pub no_index : (e : JsExpr) → ((a b : Box JsExpr Global) → e.form ≡ Index a b → ⊥) → is_index (expr_view e) ≡ false
no_index e h = layer (out-ExprForm e.form) e (sym (roll-out-ExprForm e.form)) h

call_layer : (x : ExprForm-F ExprForm JsExpr JsExprs) (e : JsExpr) → e.form ≡ roll-ExprForm x → ((a : Box JsExpr Global) (es : JsExprs) → e.form ≡ Call a es → ⊥)
    → ((a : Box JsExpr Global) → e.form ≡ Pop a → ⊥) → is_call (expr_view e) ≡ false
call_layer (ExprForm-F.Call a es) e q h k = absurd (h a es (q ∙ form.rolls-Call a es))
call_layer (ExprForm-F.Pop a) e q h k = absurd (k a (q ∙ form.rolls-Pop a))
call_layer x e q h k = rw (fold_out-JsExpr, q, fold-roll-ExprForm)

pub no_call : (e : JsExpr) → ((a : Box JsExpr Global) (es : JsExprs) → e.form ≡ Call a es → ⊥) → ((a : Box JsExpr Global) → e.form ≡ Pop a → ⊥) → is_call (expr_view e) ≡ false
no_call e h k = call_layer (out-ExprForm e.form) e (sym (roll-out-ExprForm e.form)) h k

pub stores_nothing : (at : ℕ) (x v : Expr) → is_index x ≡ false → store_of at x v ≡ perform at v
stores_nothing at (index p e i) v h = absurd (cc)
stores_nothing at x v h = refl

pub removes_nothing : (at : ℕ) (x : Expr) → is_index x ≡ false → remove_of at x ≡ perform at x
removes_nothing at (index p e i) h = absurd (cc)
removes_nothing at x h = refl
