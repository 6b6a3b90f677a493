-- The names that are called in an expression of a form, by its parts.
use Rattle.std.proofs.Common.{◌≡◌, ◌∙◌, sym, ap, rules, ◌++◌}
use Rattle.std.specs.Prelude.{Some, None, option_map}
use Rattle.go_syntax.specs.View.{expr_view, expr_form_view, maybe_expr}
use Rattle.go_syntax.specs.declared.tree.Expr.{Expr, fold_out-Expr}
use Rattle.go_syntax.specs.declared.tree.ExprForm.{ExprForm, fold-roll-ExprForm}
use Rattle.go_syntax.specs.declared.tree.ExprForm.TheVariants as form
use Rattle.go_calls.specs.Called.{called_in, called_in_bound}

expr_whole : (e : Expr) → expr_view e ≡ expr_form_view e.form.value e.place
expr_whole e = search (rules, fold_out-Expr)

called_of : (e : Expr) (x f : ExprForm) → x ≡ e.form.value → x ≡ f → called_in (expr_view e) ≡ called_in (expr_form_view f e.place)
called_of e x f p h = ap called_in (expr_whole e) ∙ ap (λ (g : ExprForm). called_in (expr_form_view g e.place)) (sym p ∙ h)

pub called_Slice : (e : Expr) (x : ExprForm) (a : Expr) (low : _) (high : _) (most : _) → x ≡ e.form.value → x ≡ form.Slice a low high most
    → called_in (expr_view e) ≡ called_in (expr_view a) ++ called_in_bound (maybe_expr (option_map expr_view low)) ++ called_in_bound (maybe_expr (option_map expr_view high)) ++ called_in_bound (maybe_expr (option_map expr_view most))
called_Slice e x a None None None p h = called_of e x _ p h ∙ rw (← form.rolls-Slice, fold-roll-ExprForm)
called_Slice e x a None None (Some most) p h = called_of e x _ p h ∙ rw (← form.rolls-Slice, fold-roll-ExprForm)
called_Slice e x a None (Some high) None p h = called_of e x _ p h ∙ rw (← form.rolls-Slice, fold-roll-ExprForm)
called_Slice e x a None (Some high) (Some most) p h = called_of e x _ p h ∙ rw (← form.rolls-Slice, fold-roll-ExprForm)
called_Slice e x a (Some low) None None p h = called_of e x _ p h ∙ rw (← form.rolls-Slice, fold-roll-ExprForm)
called_Slice e x a (Some low) None (Some most) p h = called_of e x _ p h ∙ rw (← form.rolls-Slice, fold-roll-ExprForm)
called_Slice e x a (Some low) (Some high) None p h = called_of e x _ p h ∙ rw (← form.rolls-Slice, fold-roll-ExprForm)
called_Slice e x a (Some low) (Some high) (Some most) p h = called_of e x _ p h ∙ rw (← form.rolls-Slice, fold-roll-ExprForm)
