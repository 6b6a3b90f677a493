-- A test of fields, one after another.
use Rattle.std.proofs.Common.{refl, sym, ap, ◌∙◌}
use Rattle.std.specs.Prelude.{◌≡◌, ◌<◌, ◌≤◌, ℕ, ◌+◌, List, Bool, true, false, ◌&&◌, length, drop, get_or}
use Rattle.std.proofs.lemmas.List.{drop_all}
use Rattle.go_type.specs.Tree.{Ty, bool}
use Rattle.go_type.specs.Levels.{tree_of, fields_of}
use Rattle.go_type.specs.declared.types.FieldRow.{FieldRow}
use Rattle.go_type.specs.declared.types.TypeId.{TypeId}
use Rattle.go_core.specs.Layout.{holds_with, all_with}
use Rattle.go_values.specs.Asked.{asked_of}
use Rattle.go_values.specs.declared.layouts.holds.Asked.{Asked}
use Rattle.go_values.specs.declared.layouts.holds.Asked.TheVariants as asked
use Rattle.go_values.proofs.LayoutsLevelLemmas.{uncons}

pub bool_asked : (a : Asked) → true ≡ asked_of a bool
bool_asked asked.Compares = refl
bool_asked asked.IsKey = refl

module _ (ts : List Ty) (test : Ty → Bool) (of_name : ℕ → Bool) where
  one_of : (fs : List FieldRow) (i : ℕ) (t : TypeId) → i < length fs → ((d : FieldRow) → t ≡ (get_or fs i d).ty)
      → all_with test of_name (fields_of ts (drop i fs)) ≡ (holds_with test of_name (tree_of ts t) && all_with test of_name (fields_of ts (drop (i + 1) fs)))
  one_of fs i t h e =
      let u = uncons fs i h in
      let ty : t ≡ u.first.ty = e u.first ∙ ap (λ (g : FieldRow). g.ty) (u.at u.first) in
      ap (λ (rs : List FieldRow). all_with test of_name (fields_of ts rs)) u.split
      ∙ ap (λ (x : TypeId). holds_with test of_name (tree_of ts x) && all_with test of_name (fields_of ts (drop (i + 1) fs))) (sym ty)

  pub field_holds : (fs : List FieldRow) (i : ℕ) (t : TypeId) (all : Bool) → i < length fs → ((d : FieldRow) → t ≡ (get_or fs i d).ty) → holds_with test of_name (tree_of ts t) ≡ true
      → all_with test of_name (fields_of ts (drop i fs)) ≡ all → all_with test of_name (fields_of ts (drop (i + 1) fs)) ≡ all
  field_holds fs i t all h e y k =
      let rest = all_with test of_name (fields_of ts (drop (i + 1) fs)) in
      sym (one_of fs i t h e ∙ ap (λ (b : Bool). b && rest) y) ∙ k

  pub field_fails : (fs : List FieldRow) (i : ℕ) (t : TypeId) (all : Bool) → i < length fs → ((d : FieldRow) → t ≡ (get_or fs i d).ty) → holds_with test of_name (tree_of ts t) ≡ false
      → all_with test of_name (fields_of ts (drop i fs)) ≡ all → false ≡ all
  field_fails fs i t all h e y k =
      let rest = all_with test of_name (fields_of ts (drop (i + 1) fs)) in
      sym (one_of fs i t h e ∙ ap (λ (b : Bool). b && rest) y) ∙ k

  pub fields_hold : (fs : List FieldRow) (i : ℕ) (all : Bool) → length fs ≤ i → all_with test of_name (fields_of ts (drop i fs)) ≡ all → true ≡ all
  fields_hold fs i all h k = sym (ap (λ (rs : List FieldRow). all_with test of_name (fields_of ts rs)) (drop_all i fs h)) ∙ k
