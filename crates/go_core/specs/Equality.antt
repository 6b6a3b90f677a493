-- Go specification (as of Go 1.17), "Comparison operators": equality of values. own: structs and arrays are
-- compared part by part, up to the first difference.
use Rattle.std.specs.Prelude.{ℕ, ◌+◌, List, ◌∷◌, Bool, true, false, ◌==◌, bytes_eq, length, min}
use Rattle.std.specs.Ordering.{int_eq}
use Rattle.go_type.specs.Tree.{Ty}
use Rattle.go_type.specs.Named.{NamedTy}
use Rattle.go_core.specs.Layout.{shape_of, weight, flags, is_comparable}
use Rattle.go_core.specs.SameType.{same_type, same_truth}
use Rattle.go_core.specs.Memory.{Scalar, truth, whole, text, nil, pointer, interface, map, channel, Scalars, scalar, Value, packed}

-- what a comparison finds, with what it takes of units
pub data Verdict : Type 0 where
  equal : (units : ℕ) → Verdict
  different : (units : ℕ) → Verdict
  -- two interface values of one type that can't be compared
  refused : (units : ℕ) → Verdict

abbrev pub verdict : Bool → ℕ → Verdict
verdict true units = equal units
verdict false units = different units

-- where the first parts are equal, it is what the others are
abbrev pub and_next : Verdict → Verdict → Verdict
and_next (equal m) (equal n) = equal (m + n)
and_next (equal m) (different n) = different (m + n)
and_next (equal m) (refused n) = refused (m + n)
and_next v next = v

abbrev pub taking : ℕ → Verdict → Verdict
taking m (equal n) = equal (m + n)
taking m (different n) = different (m + n)
taking m (refused n) = refused (m + n)

-- a blank field isn't compared
abbrev pub if_compared : Bool → Verdict → Verdict
if_compared true v = v
if_compared false v = equal 0

-- interface values are equal where their types are identical and their values equal
abbrev pub of_one_type : Bool → Bool → ℕ → Verdict → Verdict
of_one_type false comparable units contents = different 0
of_one_type true false units contents = refused units
of_one_type true true units contents = taking units contents

module _ (ns : List NamedTy) where
  abbrev mutual
    -- adds the bytes that are compared, and the size of what interface values hold
    pub compare_scalars : Scalar → Scalar → Verdict
    compare_scalars (truth a) (truth b) = verdict (same_truth a b) 0
    compare_scalars (whole a) (whole b) = verdict (int_eq a b) 0
    compare_scalars (text a) (text b) = verdict (bytes_eq a b) (min (length a) (length b))
    compare_scalars nil nil = equal 0
    compare_scalars (pointer a) (pointer b) = verdict (a == b) 0
    compare_scalars (map a) (map b) = verdict (a == b) 0
    compare_scalars (channel a) (channel b) = verdict (a == b) 0
    compare_scalars (interface t xs) (interface u ys) =
        of_one_type (same_type t u) (is_comparable ns t) (weight (shape_of ns t)) (compare_all (flags (shape_of ns t)) xs ys)
    compare_scalars _ _ = different 0

    pub compare_all : List Bool → Scalars → Scalars → Verdict
    compare_all (f ∷ fs) (scalar x xs) (scalar y ys) = and_next (if_compared f (compare_scalars x y)) (compare_all fs xs ys)
    compare_all _ _ _ = equal 0

  -- two values of a type
  abbrev pub compared : Ty → Value → Value → Verdict
  compared t x y = taking (weight (shape_of ns t)) (compare_all (flags (shape_of ns t)) (packed x) (packed y))

-- ---- keys of maps, which hold no interface value

abbrev pub is_equal : Verdict → Bool
is_equal (equal units) = true
is_equal _ = false

abbrev pub same_key : List NamedTy → Ty → Value → Value → Bool
same_key ns t x y = is_equal (compared ns t x y)
