-- How many types and values there are.
use Rattle.std.proofs.Common.{arith, ◌≡◌, ◌≢◌, ◌<◌, ◌+◌, ◌∙◌, ℕ, suc, refl, sym, ap, List, [], ◌∷◌, ◌++◌, length, Bool, true, false, ◌==◌, ◌||◌, nat_eq}
use Rattle.std.proofs.lemmas.Bool.Decides.{nat_tests}
use Rattle.go_type.specs.Tree.{Ty, Tys}
use Rattle.go_type.specs.Levels.{trees_of}
use Rattle.go_type.specs.declared.types.TypeId.{TypeId}
use Rattle.go_core.specs.SameType.{same_types}
use Rattle.go_typing.specs.Statements.{count_types, is_empty}
use Rattle.go_expr.specs.declared.typed.raw.Raw as code
use Rattle.go_expr.specs.Raw.{Raw, raw_view, raws_after}
use Rattle.go_define.specs.SimpleTold.{same_count}

-- no type is left of the first
pub no_more : (ts : List Ty) (is js : List TypeId) → length is ≡ 0 → length js ≡ 0 → same_types (trees_of ts is) (trees_of ts js) ≡ true
no_more ts [] [] h k = refl
no_more ts [] (j ∷ js) h k = absurd (omega (arith, k))
no_more ts (i ∷ is) js h k = absurd (omega (arith, h))

pub some_more : (ts : List Ty) (is js : List TypeId) → length is ≡ 0 → 0 < length js → same_types (trees_of ts is) (trees_of ts js) ≡ false
some_more ts [] [] h k = absurd (omega (arith, k))
some_more ts [] (j ∷ js) h k = refl
some_more ts (i ∷ is) js h k = absurd (omega (arith, h))

-- ---- types

counted : (ts : List Ty) (is : List TypeId) → count_types (trees_of ts is) ≡ length is
counted ts [] = refl
counted ts (i ∷ is) = ap suc (counted ts is)

pub counted_types : (ts : List Ty) (is : List TypeId) (n : ℕ) → n ≡ length is → n ≡ count_types (trees_of ts is)
counted_types ts is n h = h ∙ sym (counted ts is)

equal : (a b : ℕ) → a ≡ b → (a == b) ≡ true
equal a b h = grind (arith, nat_tests)

unequal : (a b : ℕ) → b ≢ a → (a == b) ≡ false
unequal a b h = grind (arith, nat_tests)

pub types_equal : (ts : List Ty) (is js : List TypeId) → length is ≡ length js → (count_types (trees_of ts is) == count_types (trees_of ts js)) ≡ true
types_equal ts is js h = equal (count_types (trees_of ts is)) (count_types (trees_of ts js)) (counted ts is ∙ h ∙ sym (counted ts js))

pub types_unequal : (ts : List Ty) (is js : List TypeId) → length js ≢ length is → (count_types (trees_of ts is) == count_types (trees_of ts js)) ≡ false
types_unequal ts is js h = unequal (count_types (trees_of ts is)) (count_types (trees_of ts js)) (λ e. h (sym (counted ts js) ∙ e ∙ counted ts is))

pub bare_none : (ts : List Ty) (is : List TypeId) (named : Bool) → length is ≡ 0 → true ≡ (is_empty (trees_of ts is) || named)
bare_none ts [] named h = refl
bare_none ts (i ∷ is) named h = absurd (omega (arith, h))

pub bare_some : (ts : List Ty) (is : List TypeId) (named : Bool) → 0 < length is → named ≡ (is_empty (trees_of ts is) || named)
bare_some ts [] named h = absurd (omega (arith, h))
bare_some ts (i ∷ is) named h = refl

-- ---- types and values, where the last one is held first

as_many : (ts : List Ty) (rs : List code.Raw) (after : List Raw) → length (raws_after ts rs after) ≡ length rs + length after
as_many ts [] after = omega arith
as_many ts (r ∷ rs) after = let h = as_many ts rs (raw_view ts r ∷ after) in omega (arith, h)

same_number : (ts : List Ty) (is : List TypeId) (rs : List Raw) → length rs ≡ length is → same_count rs (trees_of ts is) ≡ true
same_number ts [] [] h = refl
same_number ts [] (r ∷ rs) h = absurd (omega (arith, h))
same_number ts (i ∷ is) [] h = absurd (omega (arith, h))
same_number ts (i ∷ is) (r ∷ rs) h = same_number ts is rs (omega (arith, h))

other_number : (ts : List Ty) (is : List TypeId) (rs : List Raw) → length rs ≢ length is → same_count rs (trees_of ts is) ≡ false
other_number ts [] [] h = absurd (h refl)
other_number ts [] (r ∷ rs) h = refl
other_number ts (i ∷ is) [] h = refl
other_number ts (i ∷ is) (r ∷ rs) h = other_number ts is rs (λ e. h (omega (arith, e)))

all_of : (ts : List Ty) (rs : List code.Raw) → length (raws_after ts rs []) ≡ length rs
all_of ts rs = let h = as_many ts rs [] in omega (arith, h)

pub same_raws : (ts : List Ty) (is : List TypeId) (rs : List code.Raw) → length rs ≡ length is → same_count (raws_after ts rs []) (trees_of ts is) ≡ true
same_raws ts is rs h = same_number ts is (raws_after ts rs []) (all_of ts rs ∙ h)

pub other_raws : (ts : List Ty) (is : List TypeId) (rs : List code.Raw) → length rs ≢ length is → same_count (raws_after ts rs []) (trees_of ts is) ≡ false
other_raws ts is rs h = other_number ts is (raws_after ts rs []) (λ e. h (sym (all_of ts rs) ∙ e))
