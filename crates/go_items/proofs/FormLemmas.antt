-- The names that an expression of a form needs, by its parts.
use Rattle.std.proofs.Common.{◌≡◌, ◌∙◌, sym, ap, rules, ℕ, List, map, ◌++◌}
use Rattle.std.specs.Prelude.{Some, None, option_map}
use Rattle.go_syntax.specs.View.{expr_view, expr_form_view, exprs_of, maybe_expr}
use Rattle.go_syntax.specs.declared.tree.Expr.{Expr, fold_out-Expr}
use Rattle.go_syntax.specs.declared.tree.ExprForm.{ExprForm, fold-roll-ExprForm}
use Rattle.go_syntax.specs.declared.tree.ExprForm.TheVariants as form
use Rattle.go_typing.specs.Env.{Bind}
use Rattle.go_typing.specs.Typing.{callee_of}
use Rattle.go_typing.specs.Cycles.{call_needs, needed, needed_bound, needed_all}
use Rattle.go_items.specs.Called.{looked_at}
use Rattle.go_items.specs.declared.needed.called.Look.{Look}

expr_whole : (e : Expr) → expr_view e ≡ expr_form_view e.form.value e.place
expr_whole e = search (rules, fold_out-Expr)

module _ (ss : List (List Bind)) where
  needed_of : (e : Expr) (x f : ExprForm) → x ≡ e.form.value → x ≡ f → needed ss (expr_view e) ≡ needed ss (expr_form_view f e.place)
  needed_of e x f p h = ap (needed ss) (expr_whole e) ∙ ap (λ (g : ExprForm). needed ss (expr_form_view g e.place)) (sym p ∙ h)

  pub needed_Slice : (e : Expr) (x : ExprForm) (a : Expr) (low : _) (high : _) (most : _) → x ≡ e.form.value → x ≡ form.Slice a low high most
      → needed ss (expr_view e) ≡ needed ss (expr_view a) ++ needed_bound ss (maybe_expr (option_map expr_view low)) ++ needed_bound ss (maybe_expr (option_map expr_view high)) ++ needed_bound ss (maybe_expr (option_map expr_view most))
  needed_Slice e x a None None None p h = needed_of e x _ p h ∙ rw (← form.rolls-Slice, fold-roll-ExprForm)
  needed_Slice e x a None None (Some most) p h = needed_of e x _ p h ∙ rw (← form.rolls-Slice, fold-roll-ExprForm)
  needed_Slice e x a None (Some high) None p h = needed_of e x _ p h ∙ rw (← form.rolls-Slice, fold-roll-ExprForm)
  needed_Slice e x a None (Some high) (Some most) p h = needed_of e x _ p h ∙ rw (← form.rolls-Slice, fold-roll-ExprForm)
  needed_Slice e x a (Some low) None None p h = needed_of e x _ p h ∙ rw (← form.rolls-Slice, fold-roll-ExprForm)
  needed_Slice e x a (Some low) None (Some most) p h = needed_of e x _ p h ∙ rw (← form.rolls-Slice, fold-roll-ExprForm)
  needed_Slice e x a (Some low) (Some high) None p h = needed_of e x _ p h ∙ rw (← form.rolls-Slice, fold-roll-ExprForm)
  needed_Slice e x a (Some low) (Some high) (Some most) p h = needed_of e x _ p h ∙ rw (← form.rolls-Slice, fold-roll-ExprForm)

  pub needed_Call : (e : Expr) (x : ExprForm) (f : Expr) (args : _) (b : _) → x ≡ e.form.value → x ≡ form.Call f args b
      → needed ss (expr_view e) ≡ call_needs (callee_of ss (expr_view f)) (needed ss (expr_view f)) (needed_all ss (exprs_of (map expr_view args.items)))
  needed_Call e x f args b p h = needed_of e x _ p h ∙ rw (← form.rolls-Call, fold-roll-ExprForm)

  pub needed_look : (e : Expr) (x : ExprForm) (f : Expr) (args : _) (b : _) (l k : Look) → x ≡ e.form.value → x ≡ form.Call f args b
      → ((fs xs : List (List ℕ)) → looked_at l fs xs ≡ call_needs (callee_of ss (expr_view f)) fs xs) → l ≡ k
      → needed ss (expr_view e) ≡ looked_at k (needed ss (expr_view f)) (needed_all ss (exprs_of (map expr_view args.items)))
  needed_look e x f args b l k p h v q =
      let fs = needed ss (expr_view f) in
      let xs = needed_all ss (exprs_of (map expr_view args.items)) in
      needed_Call e x f args b p h ∙ sym (v fs xs) ∙ ap (λ (i : Look). looked_at i fs xs) q
