-- What a place of the definitions is, by the form of the program's.
use Rattle.std.proofs.Common.{◌≡◌, ap, sym, ◌∙◌, List}
use Rattle.go_type.specs.Tree.{Ty}
use Rattle.go_type.specs.Levels.{tree_of}
use Rattle.go_core.specs.CoreTree as tree
use Rattle.go_core.specs.CoreView.{expr_view, place_view, place_form_view}
use Rattle.go_core.specs.declared.node.CorePlace.{CorePlace, out-CorePlace}
use Rattle.go_core.specs.declared.node.PlaceForm.{PlaceForm}
use Rattle.go_core.specs.declared.node.PlaceForm.TheVariants as at
use Rattle.go_state.proofs.Views.{place_whole, place_Local, place_Global, place_Deref, place_Field, place_Elem, place_SliceElem}

module _ (ts : List Ty) (p : CorePlace) (x : PlaceForm) (h : x ≡ (out-CorePlace p).form.value) where
  formed : place_view ts p ≡ place_form_view ts x
  formed = place_whole ts p ∙ ap (place_form_view ts) (sym h)

  pub local_place : (v : _) → x ≡ at.Local v → place_view ts p ≡ tree.local_ v.0
  local_place v e = formed ∙ place_Local ts x v e

  pub global_place : (n : _) → x ≡ at.Global n → place_view ts p ≡ tree.global n.0
  global_place n e = formed ∙ place_Global ts x n e

  pub deref_place : (e : _) → x ≡ at.Deref e → place_view ts p ≡ tree.deref (expr_view ts e)
  deref_place e i = formed ∙ place_Deref ts x e i

  pub field_place : (t : _) (n : _) (q : _) → x ≡ at.Field t n q → place_view ts p ≡ tree.field (tree_of ts t) n (place_view ts q)
  field_place t n q e = formed ∙ place_Field ts x t n q e

  pub elem_place : (t : _) (q : _) (i : _) → x ≡ at.Elem t q i → place_view ts p ≡ tree.elem (tree_of ts t) (place_view ts q) (expr_view ts i)
  elem_place t q i e = formed ∙ place_Elem ts x t q i e

  pub slice_elem_place : (t : _) (a : _) (i : _) → x ≡ at.SliceElem t a i → place_view ts p ≡ tree.slice_elem (tree_of ts t) (expr_view ts a) (expr_view ts i)
  slice_elem_place t a i e = formed ∙ place_SliceElem ts x t a i e
