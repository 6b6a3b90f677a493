-- The signature `func() string`, and a list of one.
use Rattle.std.proofs.Common.{◌≡◌, refl, ap, sym, ◌∙◌, arith, length, List, [], ◌∷◌}
use Rattle.std.specs.Prelude.{◌<◌, Bool, true, false, ◌&&◌, Some, None}
use Rattle.go_type.specs.Tree.{Ty, str, no_tys}
use Rattle.go_type.specs.Levels.{level, tree_of, trees_of}
use Rattle.go_type.specs.declared.types.GoType.{GoType}
use Rattle.go_type.specs.declared.types.GoType.TheVariants as go
use Rattle.go_type.specs.declared.types.TypeId.{TypeId}
use Rattle.go_core.specs.CoreTree.{CoreFunc}
use Rattle.go_core.specs.Memory.{Value}
use Rattle.go_core.specs.SameType.{same_type, same_types, same_truth}
use Rattle.go_core.specs.StepInterfaces.{has_signature, one_string}
use Rattle.go_entries.specs.Told.{text_of, told_of}

and_true : (b : Bool) → (b && true) ≡ b
and_true true = refl
and_true false = refl

and_false : (b : Bool) → (b && false) ≡ false
and_false true = refl
and_false false = refl

pub no_text : (ts : List Ty) (g : GoType) → (g ≡ go.Str → ⊥) → false ≡ same_type (level ts g) str
no_text ts go.Str h = absurd (h refl)
no_text ts g h = refl

pub one_text : (ts : List Ty) (t : TypeId) → same_type (tree_of ts t) str ≡ same_types (trees_of ts (t ∷ [])) one_string
one_text ts t = sym (and_true (same_type (tree_of ts t) str))

pub not_one : (ts : List Ty) (ids : List TypeId) → ¬ (length ids ≡ 1) → false ≡ same_types (trees_of ts ids) one_string
not_one ts [] h = refl
not_one ts (t ∷ []) h = absurd (h refl)
not_one ts (t ∷ u ∷ us) h = sym (and_false (same_type (tree_of ts t) str))

-- ---- by parameters, whether it is variadic, and results

some_there : (ts : List Ty) (ids : List TypeId) → 0 < length ids → same_types (trees_of ts ids) no_tys ≡ false
some_there ts [] h = absurd (omega (arith, h))
some_there ts (t ∷ us) h = refl

none_there : (ts : List Ty) (ids : List TypeId) → ¬ (0 < length ids) → same_types (trees_of ts ids) no_tys ≡ true
none_there ts [] h = refl
none_there ts (t ∷ us) h = absurd (h (omega arith))

module _ (ts : List Ty) (f : CoreFunc) (ids : List TypeId) (e : f.params ≡ trees_of ts ids) where
  pub has_params : 0 < length ids → false ≡ has_signature no_tys one_string false (Some f)
  has_params h =
      sym (ap (λ (b : Bool). b && same_types f.results one_string && same_truth f.variadic false) (ap (λ us. same_types us no_tys) e ∙ some_there ts ids h))

  pub is_variadic : f.variadic ≡ true → false ≡ has_signature no_tys one_string false (Some f)
  is_variadic h =
      sym (ap (λ (b : Bool). same_types f.params no_tys && same_types f.results one_string && same_truth b false) h ∙ and_false (same_types f.params no_tys && same_types f.results one_string))

  pub by_results : ¬ (0 < length ids) → f.variadic ≡ false → same_types f.results one_string ≡ has_signature no_tys one_string false (Some f)
  by_results h v =
      sym (ap (λ (b : Bool). b && same_types f.results one_string && same_truth f.variadic false) (ap (λ us. same_types us no_tys) e ∙ none_there ts ids h)
      ∙ ap (λ (b : Bool). same_types f.results one_string && same_truth b false) v
      ∙ and_true (same_types f.results one_string))

-- ---- lists that aren't of one

pub no_text_value : (v : Value) → ¬ (length v ≡ 1) → None ≡ text_of v
no_text_value [] h = refl
no_text_value (x ∷ []) h = absurd (h refl)
no_text_value (x ∷ y ∷ ys) h = refl

pub not_told : (vs : List Value) → ¬ (length vs ≡ 1) → None ≡ told_of vs
not_told [] h = refl
not_told (v ∷ []) h = absurd (h refl)
not_told (v ∷ w ∷ vs) h = refl
