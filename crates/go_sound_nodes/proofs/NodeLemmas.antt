-- Nodes that are sound by their parts: those with sizes or bounds that may be missing, and the cell of a gate.
use Rattle.std.proofs.Common.{◌≡◌, ◌∙◌, sym, ap, subst, rules}
use Rattle.std.specs.Prelude.{ℕ, List, Option, Some, None, option_map}
use Rattle.go_type.specs.Tree.{Ty}
use Rattle.go_type.specs.Levels.{tree_of}
use Rattle.go_type.specs.Underlying.{underlying}
use Rattle.go_type.specs.declared.types.TypeId.{TypeId}
use Rattle.go_core.specs.CoreTree as core
use Rattle.go_core.specs.CoreTree.{CoreProgram}
use Rattle.go_core.specs.CoreView.{bound_of, expr_view, expr_form_view, place_view, place_form_view}
use Rattle.go_core.specs.SoundNode.{Around, IsGateField, IsGoodType, IsInt, IsSlice, SlicesTo}
use Rattle.go_core.specs.Sound.{Gives, GivesSome, LiesAt, SoundBound, SoundExpr, SoundGate, SoundPlace}
use Rattle.go_core.specs.declared.node.CoreExpr.{CoreExpr, fold_out-CoreExpr}
use Rattle.go_core.specs.declared.node.CoreForm.{CoreForm, fold-roll-CoreForm}
use Rattle.go_core.specs.declared.node.CoreForm.TheVariants as node
use Rattle.go_core.specs.declared.node.CorePlace.{CorePlace, fold_out-CorePlace}
use Rattle.go_core.specs.declared.node.PlaceForm.{PlaceForm, fold-roll-PlaceForm}
use Rattle.go_core.specs.declared.node.PlaceForm.TheVariants as at

module _ (ts : List Ty) where
  expr_whole : (e : CoreExpr) → expr_view ts e ≡ expr_form_view ts e.form.value
  expr_whole e = search (rules, fold_out-CoreExpr)

  place_whole : (place : CorePlace) → place_view ts place ≡ place_form_view ts place.form.value
  place_whole place = search (rules, fold_out-CorePlace)

  slice_view : (from t : TypeId) (e : CoreExpr) (low high limit : Option CoreExpr) → expr_form_view ts (node.SliceOf from t e low high limit)
      ≡ core.slice_of (tree_of ts from) (tree_of ts t) (expr_view ts e) (bound_of (option_map (expr_view ts) low)) (bound_of (option_map (expr_view ts) high)) (bound_of (option_map (expr_view ts) limit))
  slice_view from t e None None None = rw (← node.rolls-SliceOf, fold-roll-CoreForm)
  slice_view from t e None None (Some limit) = rw (← node.rolls-SliceOf, fold-roll-CoreForm)
  slice_view from t e None (Some high) None = rw (← node.rolls-SliceOf, fold-roll-CoreForm)
  slice_view from t e None (Some high) (Some limit) = rw (← node.rolls-SliceOf, fold-roll-CoreForm)
  slice_view from t e (Some low) None None = rw (← node.rolls-SliceOf, fold-roll-CoreForm)
  slice_view from t e (Some low) None (Some limit) = rw (← node.rolls-SliceOf, fold-roll-CoreForm)
  slice_view from t e (Some low) (Some high) None = rw (← node.rolls-SliceOf, fold-roll-CoreForm)
  slice_view from t e (Some low) (Some high) (Some limit) = rw (← node.rolls-SliceOf, fold-roll-CoreForm)

  make_view : (t : TypeId) (n : CoreExpr) (capacity : Option CoreExpr) → expr_form_view ts (node.MakeSlice t n capacity)
      ≡ core.make_slice (tree_of ts t) (expr_view ts n) (bound_of (option_map (expr_view ts) capacity))
  make_view t n None = rw (← node.rolls-MakeSlice, fold-roll-CoreForm)
  make_view t n (Some capacity) = rw (← node.rolls-MakeSlice, fold-roll-CoreForm)

  cell_view : (pointer : CoreExpr) → expr_form_view ts (node.GateMake pointer) ≡ core.gate_make (expr_view ts pointer)
  cell_view pointer = rw (← node.rolls-GateMake, fold-roll-CoreForm)

  address_view : (t : TypeId) (place : CorePlace) → expr_form_view ts (node.Address t place) ≡ core.address (tree_of ts t) (place_view ts place)
  address_view t place = rw (← node.rolls-Address, fold-roll-CoreForm)

  field_view : (t : TypeId) (n : ℕ) (place : CorePlace) → place_form_view ts (at.Field t n place) ≡ core.field (tree_of ts t) n (place_view ts place)
  field_view t n place = rw (← at.rolls-Field, fold-roll-PlaceForm)

  of_expr : (e : CoreExpr) (x f : CoreForm) → x ≡ e.form.value → x ≡ f → expr_view ts e ≡ expr_form_view ts f
  of_expr e x f p q = expr_whole e ∙ ap (λ (g : CoreForm). expr_form_view ts g) (sym p ∙ q)

  of_place : (place : CorePlace) (x f : PlaceForm) → x ≡ place.form.value → x ≡ f → place_view ts place ≡ place_form_view ts f
  of_place place x f p q = place_whole place ∙ ap (λ (g : PlaceForm). place_form_view ts g) (sym p ∙ q)

  module _ (p : CoreProgram) (a : Around) where
    pub slice_sound : (x : CoreForm) (from t : TypeId) (e : CoreExpr) (low high limit : Option CoreExpr) → x ≡ node.SliceOf from t e low high limit
        → SoundExpr p a (expr_view ts e) → SoundBound p a (bound_of (option_map (expr_view ts) low)) → SoundBound p a (bound_of (option_map (expr_view ts) high)) → SoundBound p a (bound_of (option_map (expr_view ts) limit))
        → Gives p (expr_view ts e) (tree_of ts from) → SlicesTo p (underlying p.names (tree_of ts from)) (tree_of ts from) (tree_of ts t) → SoundExpr p a (expr_form_view ts x)
    slice_sound x from t e low high limit is s l h m g to =
        subst (λ (y : core.Expr). SoundExpr p a y) (sym (ap (λ (f : CoreForm). expr_form_view ts f) is ∙ slice_view from t e low high limit)) (s, l, h, m, g, to)

    pub make_sound : (x : CoreForm) (t : TypeId) (n : CoreExpr) (capacity : Option CoreExpr) → x ≡ node.MakeSlice t n capacity
        → SoundExpr p a (expr_view ts n) → SoundBound p a (bound_of (option_map (expr_view ts) capacity)) → GivesSome p (expr_view ts n) IsInt
        → IsGoodType p (tree_of ts t) → IsSlice (underlying p.names (tree_of ts t)) → SoundExpr p a (expr_form_view ts x)
    make_sound x t n capacity is s c g good slice =
        subst (λ (y : core.Expr). SoundExpr p a y) (sym (ap (λ (f : CoreForm). expr_form_view ts f) is ∙ make_view t n capacity)) (s, c, g, good, slice)

    pub gate_sound : (e : CoreExpr) (x : CoreForm) (pointer : CoreExpr) (y : CoreForm) (t : TypeId) (place : CorePlace) (z : PlaceForm) (st : TypeId) (n : ℕ) (inner : CorePlace)
        → x ≡ e.form.value → x ≡ node.GateMake pointer → y ≡ pointer.form.value → y ≡ node.Address t place → z ≡ place.form.value → z ≡ at.Field st n inner
        → SoundPlace p a (place_view ts inner) → LiesAt p a.vars (place_view ts inner) (tree_of ts st) → IsGateField p (tree_of ts st) n → SoundGate p a (expr_view ts e)
    gate_sound e x pointer y t place z st n inner ex xs py ys pz zs sound lies field =
        let in_place = of_place place z (at.Field st n inner) pz zs ∙ field_view st n inner in
        let in_pointer = of_expr pointer y (node.Address t place) py ys ∙ address_view t place ∙ ap (λ (w : core.CorePlace). core.address (tree_of ts t) w) in_place in
        let whole = of_expr e x (node.GateMake pointer) ex xs ∙ cell_view pointer ∙ ap (λ (w : core.Expr). core.gate_make w) in_pointer in
        subst (λ (w : core.Expr). SoundGate p a w) (sym whole) (sound, lies, field)
