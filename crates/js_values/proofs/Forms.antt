-- Expressions by their forms.
use Rattle.std.proofs.Common.{◌≡◌, ◌∙◌, List, Bool, false, None, Option, ℤ, refl, sym, ap, rules}
use Rattle.gj_base.specs.declared.kind.Op.{Op}
use Rattle.go_type.specs.Tree.{Ty}
use Rattle.go_type.specs.declared.types.TypeId.{TypeId}
use Rattle.go_core.specs.CoreTree as core
use Rattle.go_core.specs.CoreView.{ty, constant_of, expr_view, expr_form_view, place_view, place_form_view}
use Rattle.go_core.specs.declared.node.VarId.{VarId}
use Rattle.go_core.specs.declared.node.Constant.{Constant}
use Rattle.go_core.specs.declared.node.Callee.{Callee}
use Rattle.go_core.specs.declared.node.CoreExpr.{CoreExpr, fold_out-CoreExpr}
use Rattle.go_core.specs.declared.node.CoreExprs.{CoreExprs}
use Rattle.go_core.specs.declared.node.CoreElement.{CoreElement}
use Rattle.go_core.specs.declared.node.CoreElements.{CoreElements}
use Rattle.go_core.specs.declared.node.CorePair.{CorePair}
use Rattle.go_core.specs.declared.node.CorePairs.{CorePairs}
use Rattle.go_core.specs.declared.node.CorePlace.{CorePlace, fold_out-CorePlace}
use Rattle.go_core.specs.declared.node.CoreForm.{CoreForm, CoreForm-F, fold-roll-CoreForm, out-CoreForm, roll-CoreForm, roll-out-CoreForm}
use Rattle.go_core.specs.declared.node.CoreForm.TheVariants as node
use Rattle.go_core.specs.declared.node.PlaceForm.{PlaceForm, PlaceForm-F, fold-roll-PlaceForm, out-PlaceForm, roll-PlaceForm, roll-out-PlaceForm}
use Rattle.go_core.specs.declared.node.PlaceForm.TheVariants as at
use Rattle.js_values.specs.Exprs.{within}
use Rattle.js_values.specs.Numbers.{constant_count}

-- a form that isn't covered
pub record OtherForm (x : CoreForm) : Type 0 where
  pub no_const : (t : TypeId) (c : Constant) → x ≡ node.Const t c → ⊥
  pub no_zero : (t : TypeId) → x ≡ node.Zero t → ⊥
  pub no_read : (t : TypeId) (place : CorePlace) → x ≡ node.Read t place → ⊥
  pub no_unary : (o : Op) (t : TypeId) (a : CoreExpr) → x ≡ node.Unary o t a → ⊥
  pub no_binary : (o : Op) (t : TypeId) (l r : CoreExpr) → x ≡ node.Binary o t l r → ⊥
  pub no_concat : (t : TypeId) (l r : CoreExpr) → x ≡ node.Concat t l r → ⊥
  pub no_equal : (negated : Bool) (u t : TypeId) (l r : CoreExpr) → x ≡ node.Equal negated u t l r → ⊥
  pub no_less : (o : Op) (u t : TypeId) (l r : CoreExpr) → x ≡ node.Less o u t l r → ⊥
  pub no_and : (t : TypeId) (l r : CoreExpr) → x ≡ node.AndThen t l r → ⊥
  pub no_or : (t : TypeId) (l r : CoreExpr) → x ≡ node.OrElse t l r → ⊥
  pub no_not : (t : TypeId) (a : CoreExpr) → x ≡ node.Not t a → ⊥
  pub no_convert : (u t : TypeId) (a : CoreExpr) → x ≡ node.Convert u t a → ⊥

module _ (ts : List Ty) where
  expr_whole : (e : CoreExpr) → expr_view ts e ≡ expr_form_view ts e.form.value
  expr_whole e = search (rules, fold_out-CoreExpr)

  place_whole : (place : CorePlace) → place_view ts place ≡ place_form_view ts place.form.value
  place_whole place = search (rules, fold_out-CorePlace)

  pub of_expr : (e : CoreExpr) (x f : CoreForm) → x ≡ e.form.value → x ≡ f → expr_view ts e ≡ expr_form_view ts f
  of_expr e x f p q = expr_whole e ∙ ap (λ (g : CoreForm). expr_form_view ts g) (sym p ∙ q)

  pub of_place : (place : CorePlace) (x f : PlaceForm) → x ≡ place.form.value → x ≡ f → place_view ts place ≡ place_form_view ts f
  of_place place x f p q = place_whole place ∙ ap (λ (g : PlaceForm). place_form_view ts g) (sym p ∙ q)

  module _ (e : CoreExpr) (x : CoreForm) (p : x ≡ e.form.value) where
    pub of_const : (t : TypeId) (c : Constant) → x ≡ node.Const t c → expr_view ts e ≡ core.constant (ty ts t) (constant_of c)
    of_const t c q = of_expr e x _ p q ∙ rw (← node.rolls-Const, fold-roll-CoreForm)

    pub of_zero : (t : TypeId) → x ≡ node.Zero t → expr_view ts e ≡ core.zero_value (ty ts t)
    of_zero t q = of_expr e x _ p q ∙ rw (← node.rolls-Zero, fold-roll-CoreForm)

    pub of_read : (t : TypeId) (place : CorePlace) → x ≡ node.Read t place → expr_view ts e ≡ core.read (ty ts t) (place_view ts place)
    of_read t place q = of_expr e x _ p q ∙ rw (← node.rolls-Read, fold-roll-CoreForm)

    pub of_unary : (o : Op) (t : TypeId) (a : CoreExpr) → x ≡ node.Unary o t a → expr_view ts e ≡ core.unary o (ty ts t) (expr_view ts a)
    of_unary o t a q = of_expr e x _ p q ∙ rw (← node.rolls-Unary, fold-roll-CoreForm)

    pub of_binary : (o : Op) (t : TypeId) (l r : CoreExpr) → x ≡ node.Binary o t l r → expr_view ts e ≡ core.binary o (ty ts t) (expr_view ts l) (expr_view ts r)
    of_binary o t l r q = of_expr e x _ p q ∙ rw (← node.rolls-Binary, fold-roll-CoreForm)

    pub of_concat : (t : TypeId) (l r : CoreExpr) → x ≡ node.Concat t l r → expr_view ts e ≡ core.concat (ty ts t) (expr_view ts l) (expr_view ts r)
    of_concat t l r q = of_expr e x _ p q ∙ rw (← node.rolls-Concat, fold-roll-CoreForm)

    pub of_equal : (negated : Bool) (u t : TypeId) (l r : CoreExpr) → x ≡ node.Equal negated u t l r → expr_view ts e ≡ core.equal negated (ty ts u) (ty ts t) (expr_view ts l) (expr_view ts r)
    of_equal negated u t l r q = of_expr e x _ p q ∙ rw (← node.rolls-Equal, fold-roll-CoreForm)

    pub of_less : (o : Op) (u t : TypeId) (l r : CoreExpr) → x ≡ node.Less o u t l r → expr_view ts e ≡ core.less o (ty ts u) (ty ts t) (expr_view ts l) (expr_view ts r)
    of_less o u t l r q = of_expr e x _ p q ∙ rw (← node.rolls-Less, fold-roll-CoreForm)

    pub of_and : (t : TypeId) (l r : CoreExpr) → x ≡ node.AndThen t l r → expr_view ts e ≡ core.and_then (ty ts t) (expr_view ts l) (expr_view ts r)
    of_and t l r q = of_expr e x _ p q ∙ rw (← node.rolls-AndThen, fold-roll-CoreForm)

    pub of_or : (t : TypeId) (l r : CoreExpr) → x ≡ node.OrElse t l r → expr_view ts e ≡ core.or_else (ty ts t) (expr_view ts l) (expr_view ts r)
    of_or t l r q = of_expr e x _ p q ∙ rw (← node.rolls-OrElse, fold-roll-CoreForm)

    pub of_not : (t : TypeId) (a : CoreExpr) → x ≡ node.Not t a → expr_view ts e ≡ core.not_ (ty ts t) (expr_view ts a)
    of_not t a q = of_expr e x _ p q ∙ rw (← node.rolls-Not, fold-roll-CoreForm)

    pub of_convert : (u t : TypeId) (a : CoreExpr) → x ≡ node.Convert u t a → expr_view ts e ≡ core.convert (ty ts u) (ty ts t) (expr_view ts a)
    of_convert u t a q = of_expr e x _ p q ∙ rw (← node.rolls-Convert, fold-roll-CoreForm)

  pub of_local : (place : CorePlace) (x : PlaceForm) (v : VarId) → x ≡ place.form.value → x ≡ at.Local v → place_view ts place ≡ core.local_ v.0
  of_local place x v p q = of_place place x _ p q ∙ rw (← at.rolls-Local, fold-roll-PlaceForm)

  -- no other form is within what is covered
  module _ (ok : Ty → Bool) (plain : Bool) where
    form_layer : (y : CoreForm-F Callee CoreForm PlaceForm CoreElement CoreElements CoreExpr CoreExprs CorePair CorePairs CorePlace) (x : CoreForm) → x ≡ roll-CoreForm y → OtherForm x → within ok plain (expr_form_view ts x) ≡ false
    form_layer (CoreForm-F.Const t c) x q n = absurd (n.no_const t c (q ∙ node.rolls-Const t c))
    form_layer (CoreForm-F.Zero t) x q n = absurd (n.no_zero t (q ∙ node.rolls-Zero t))
    form_layer (CoreForm-F.Read t place) x q n = absurd (n.no_read t place (q ∙ node.rolls-Read t place))
    form_layer (CoreForm-F.Unary o t a) x q n = absurd (n.no_unary o t a (q ∙ node.rolls-Unary o t a))
    form_layer (CoreForm-F.Binary o t l r) x q n = absurd (n.no_binary o t l r (q ∙ node.rolls-Binary o t l r))
    form_layer (CoreForm-F.Concat t l r) x q n = absurd (n.no_concat t l r (q ∙ node.rolls-Concat t l r))
    form_layer (CoreForm-F.Equal negated u t l r) x q n = absurd (n.no_equal negated u t l r (q ∙ node.rolls-Equal negated u t l r))
    form_layer (CoreForm-F.Less o u t l r) x q n = absurd (n.no_less o u t l r (q ∙ node.rolls-Less o u t l r))
    form_layer (CoreForm-F.AndThen t l r) x q n = absurd (n.no_and t l r (q ∙ node.rolls-AndThen t l r))
    form_layer (CoreForm-F.OrElse t l r) x q n = absurd (n.no_or t l r (q ∙ node.rolls-OrElse t l r))
    form_layer (CoreForm-F.Not t a) x q n = absurd (n.no_not t a (q ∙ node.rolls-Not t a))
    form_layer (CoreForm-F.Convert u t a) x q n = absurd (n.no_convert u t a (q ∙ node.rolls-Convert u t a))
    form_layer y x q n = rw (q, fold-roll-CoreForm)

    pub other_form : (x : CoreForm) → OtherForm x → within ok plain (expr_form_view ts x) ≡ false
    other_form x = form_layer (out-CoreForm x) x (sym (roll-out-CoreForm x))

    place_layer : (y : PlaceForm-F Callee CoreForm PlaceForm CoreElement CoreElements CoreExpr CoreExprs CorePair CorePairs CorePlace) (x : PlaceForm) (t : Ty) → x ≡ roll-PlaceForm y
        → ((v : VarId) → x ≡ at.Local v → ⊥) → within ok plain (core.read t (place_form_view ts x)) ≡ false
    place_layer (PlaceForm-F.Local v) x t q n = absurd (n v (q ∙ at.rolls-Local v))
    place_layer y x t q n = rw (q, fold-roll-PlaceForm)

    pub other_place : (x : PlaceForm) (t : Ty) → ((v : VarId) → x ≡ at.Local v → ⊥) → within ok plain (core.read t (place_form_view ts x)) ≡ false
    other_place x t n = place_layer (out-PlaceForm x) x t (sym (roll-out-PlaceForm x)) n

  count_layer : (y : CoreForm-F Callee CoreForm PlaceForm CoreElement CoreElements CoreExpr CoreExprs CorePair CorePairs CorePlace) (x : CoreForm) → x ≡ roll-CoreForm y
      → ((t : TypeId) (c : Constant) → x ≡ node.Const t c → ⊥) → constant_count (expr_form_view ts x) ≡ None
  count_layer (CoreForm-F.Const t c) x q n = absurd (n t c (q ∙ node.rolls-Const t c))
  count_layer y x q n = rw (q, fold-roll-CoreForm)

  -- no other form is a constant count
  pub no_count : (x : CoreForm) → ((t : TypeId) (c : Constant) → x ≡ node.Const t c → ⊥) → constant_count (expr_form_view ts x) ≡ None
  no_count x n = count_layer (out-CoreForm x) x (sym (roll-out-CoreForm x)) n
