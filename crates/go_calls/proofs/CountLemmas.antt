-- How many arguments there are.
use Rattle.std.proofs.Common.{◌≡◌, ◌≢◌, ◌<◌, refl, sym, ◌∙◌, List, [], ◌∷◌, length, arith}
use Rattle.std.specs.Prelude.{true, false}
use Rattle.gj_base.specs.declared.place.Place.{Place}
use Rattle.go_type.specs.Tree.{Ty}
use Rattle.go_type.specs.Named.{NamedTy}
use Rattle.go_type.specs.Levels.{trees_of}
use Rattle.go_type.specs.declared.types.TypeId.{TypeId}
use Rattle.go_core.specs.SameType.{same_types}
use Rattle.go_typing.specs.Answer.{bad}
use Rattle.go_typing.specs.Operand.{Operand}
use Rattle.go_typing.specs.Call.{each, same_count, one_count, length_given}
use Rattle.go_calls.specs.declared.given.kinds.Placed.{Placed}
use Rattle.go_calls.specs.CallView.{operands_view}
use Rattle.go_calls.proofs.OrderLemmas.{view_count}

-- types and types
pub one_same : (ts : List Ty) (a b : List TypeId) → length a ≡ length b → one_count (trees_of ts a) (trees_of ts b) ≡ true
one_same ts [] [] h = refl
one_same ts [] (j ∷ js) h = absurd (omega (arith, h))
one_same ts (i ∷ is) [] h = absurd (omega (arith, h))
one_same ts (i ∷ is) (j ∷ js) h = one_same ts is js (omega (arith, h))

pub one_other : (ts : List Ty) (a b : List TypeId) → length b ≢ length a → one_count (trees_of ts a) (trees_of ts b) ≡ false
one_other ts [] [] h = absurd (h refl)
one_other ts [] (j ∷ js) h = refl
one_other ts (i ∷ is) [] h = refl
one_other ts (i ∷ is) (j ∷ js) h = one_other ts is js (λ e. h (omega (arith, e)))

-- no type is left of the first
pub no_more : (ts : List Ty) (is js : List TypeId) → length is ≡ 0 → length js ≡ 0 → same_types (trees_of ts is) (trees_of ts js) ≡ true
no_more ts [] [] h k = refl
no_more ts [] (j ∷ js) h k = absurd (omega (arith, k))
no_more ts (i ∷ is) js h k = absurd (omega (arith, h))

pub some_more : (ts : List Ty) (is js : List TypeId) → length is ≡ 0 → 0 < length js → same_types (trees_of ts is) (trees_of ts js) ≡ false
some_more ts [] [] h k = absurd (omega (arith, k))
some_more ts [] (j ∷ js) h k = refl
some_more ts (i ∷ is) js h k = absurd (omega (arith, h))

-- types and operands
same_same : (ts : List Ty) (is : List TypeId) (xs : List (Place × Operand)) → length is ≡ length xs → same_count (trees_of ts is) xs ≡ true
same_same ts [] [] h = refl
same_same ts [] (x ∷ xs) h = absurd (omega (arith, h))
same_same ts (i ∷ is) [] h = absurd (omega (arith, h))
same_same ts (i ∷ is) (x ∷ xs) h = same_same ts is xs (omega (arith, h))

same_other : (ts : List Ty) (is : List TypeId) (xs : List (Place × Operand)) → length xs ≢ length is → same_count (trees_of ts is) xs ≡ false
same_other ts [] [] h = absurd (h refl)
same_other ts [] (x ∷ xs) h = refl
same_other ts (i ∷ is) [] h = refl
same_other ts (i ∷ is) (x ∷ xs) h = same_other ts is xs (λ e. h (omega (arith, e)))

pub same_view : (ts : List Ty) (is : List TypeId) (xs : List Placed) → length is ≡ length xs → same_count (trees_of ts is) (operands_view ts xs) ≡ true
same_view ts is xs h = same_same ts is (operands_view ts xs) (h ∙ sym (view_count ts xs))

pub other_view : (ts : List Ty) (is : List TypeId) (xs : List Placed) → length xs ≢ length is → same_count (trees_of ts is) (operands_view ts xs) ≡ false
other_view ts is xs h = same_other ts is (operands_view ts xs) (λ e. h (sym (view_count ts xs) ∙ e))

none_measured : (ns : List NamedTy) (at : Place) (xs : List (Place × Operand)) → length xs ≢ 1 → length_given ns at (each xs) ≡ bad at 60
none_measured ns at [] h = refl
none_measured ns at (x ∷ []) h = absurd (h refl)
none_measured ns at (x ∷ y ∷ xs) h = refl

pub other_measured : (ns : List NamedTy) (at : Place) (ts : List Ty) (xs : List Placed) → length xs ≢ 1 → length_given ns at (each (operands_view ts xs)) ≡ bad at 60
other_measured ns at ts xs h = none_measured ns at (operands_view ts xs) (λ e. h (sym (view_count ts xs) ∙ e))
