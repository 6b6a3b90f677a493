-- The types of a value's scalars, one after another: as `Layout` has their shapes, with the whole type of each, but for
-- tags. So types between which a conversion leaves a value as it is have the same leaves.
-- Both go down a type in the same way and to the same depth.
use Rattle.std.specs.Prelude.{◌≡◌, ℕ, zero, suc, List, [], ◌∷◌, ◌++◌, Option, Some, None, length, slice_get}
use Rattle.go_type.specs.Tree.{Ty, Fields, array, struct, named, no_fields, more_fields}
use Rattle.go_type.specs.Named.{NamedTy}
use Rattle.go_type.specs.Underlying.{under_at}
use Rattle.go_core.specs.Untagged.{untagged}

pub data Leaf : Type 0 where
  -- the one scalar of a value that has none
  filler : Leaf
  -- of this type, which is no struct, no array and not named, and has no tags
  leaf : (type_ : Ty) → Leaf

abbrev pub leaf_of : Ty → Leaf
leaf_of t = leaf (untagged t)

abbrev pub times : ℕ → List Leaf → List Leaf
times zero ls = []
times (suc n) ls = ls ++ times n ls

abbrev pub or_filler : List Leaf → List Leaf
or_filler [] = filler ∷ []
or_filler (l ∷ ls) = l ∷ ls

module _ (of_name : ℕ → List Leaf) where
  abbrev mutual
    -- the leaves of a type, where those of each named type are known
    pub leaves_with : Ty → List Leaf
    leaves_with (array n t) = or_filler (times n (leaves_with t))
    leaves_with (struct fs) = or_filler (field_leaves fs)
    leaves_with (named id) = of_name id
    leaves_with t = leaf_of t ∷ []

    pub field_leaves : Fields → List Leaf
    field_leaves no_fields = []
    field_leaves (more_fields name package_ t embedded tag fs) = leaves_with t ++ field_leaves fs

abbrev pub leaves_under : (Ty → List Leaf) → Option Ty → List Leaf
leaves_under of_type None = filler ∷ []
leaves_under of_type (Some t) = of_type t

-- the leaves of a named type, through so many names
abbrev pub name_leaves : List NamedTy → ℕ → ℕ → List Leaf
name_leaves ns zero id = filler ∷ []
name_leaves ns (suc n) id = leaves_under (leaves_with (name_leaves ns n)) (under_at ns id)

-- the leaves of a type's values
abbrev pub leaves_of : List NamedTy → Ty → List Leaf
leaves_of ns t = leaves_with (name_leaves ns (length ns)) t

-- these leaves lie from a base on
abbrev pub Spans : List Leaf → ℕ → List Leaf → Type 0
Spans cells base [] = Unit {0}
Spans cells base (l ∷ ls) = (slice_get cells base ≡ Some l) × Spans cells (suc base) ls
