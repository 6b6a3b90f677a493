-- Whether a type is a name alone.
use Rattle.std.proofs.Common.{◌≡◌, ◌∙◌, sym, ap, rules, ℕ, List, Bool, false}
use Rattle.std.specs.Prelude.{bytes_eq, if◌then◌else◌}
use Rattle.go_syntax.specs.View.{expr_view, expr_form_view}
use Rattle.go_syntax.specs.declared.tree.Expr.{Expr, fold_out-Expr}
use Rattle.go_syntax.specs.declared.tree.ExprForm.{ExprForm, fold-roll-ExprForm}
use Rattle.go_syntax.specs.declared.tree.ExprForm.TheVariants as form
use Rattle.go_typing.specs.Env.{is_blank}
use Rattle.go_typing.specs.Declare.{is_bare}

expr_whole : (e : Expr) → expr_view e ≡ expr_form_view e.form.value e.place
expr_whole e = search (rules, fold_out-Expr)

named : (x : List ℕ) (e : Expr) (f : ExprForm) (y : _) → f ≡ e.form.value → f ≡ form.Name y → is_bare x (expr_view e) ≡ (if is_blank y then false else bytes_eq x y)
named x e f y p h = ap (is_bare x) (expr_whole e) ∙ ap (λ (g : ExprForm). is_bare x (expr_form_view g e.place)) (sym p ∙ h) ∙ rw (← form.rolls-Name, fold-roll-ExprForm)

within : (x : List ℕ) (e : Expr) (f : ExprForm) (y : Expr) → f ≡ e.form.value → f ≡ form.Paren y → is_bare x (expr_view e) ≡ is_bare x (expr_view y)
within x e f y p h = ap (is_bare x) (expr_whole e) ∙ ap (λ (g : ExprForm). is_bare x (expr_form_view g e.place)) (sym p ∙ h) ∙ rw (← form.rolls-Paren, fold-roll-ExprForm)

pub bare_name : (x : List ℕ) (e : Expr) (f : ExprForm) (y : _) (b : Bool) → f ≡ e.form.value → f ≡ form.Name y → b ≡ (if is_blank y then false else bytes_eq x y) → b ≡ is_bare x (expr_view e)
bare_name x e f y b p h k = k ∙ sym (named x e f y p h)

pub bare_within : (x : List ℕ) (e : Expr) (f : ExprForm) (y : Expr) (b : Bool) → f ≡ e.form.value → f ≡ form.Paren y → b ≡ is_bare x (expr_view y) → b ≡ is_bare x (expr_view e)
bare_within x e f y b p h k = k ∙ sym (within x e f y p h)
