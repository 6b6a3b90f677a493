-- What holds of a type through the parts that it holds by value.
use Rattle.std.specs.Prelude.{◌≡◌, ℕ, zero, suc, ◌+◌, ◌*◌, max, Bool, true, false, ◌&&◌, List, Option, Some, None, IsTrue}
use Rattle.go_type.specs.Tree.{Ty, Fields, bool, str, int, untyped, pointer, chan, interface, array, struct, named, no_fields, more_fields}
use Rattle.go_type.specs.Named.{NamedTy}
use Rattle.go_type.specs.Underlying.{under_at}
use Rattle.go_type.specs.Table.{places, names, size}
use Rattle.go_type.specs.Levels.{tree_of}
use Rattle.go_type.specs.declared.types.TypeId.{TypeId}
use Rattle.go_type.specs.declared.table.TypeTable.{TypeTable}

-- an array holds its elements, a struct its fields, a named type what it stands for
abbrev pub is_leaf : Ty → Bool
is_leaf (array n t) = false
is_leaf (struct fs) = false
is_leaf (named id) = false
is_leaf _ = true

mutual
  -- the test holds of each part of a type that has no parts of its own
  pub data HoldsOfParts (test : Ty → Bool) (ns : List NamedTy) : Ty → Type 0 where
    of_leaf : (t : Ty) → IsTrue (is_leaf t) → IsTrue (test t) → HoldsOfParts test ns t
    of_array : (n : ℕ) (t : Ty) → HoldsOfParts test ns t → HoldsOfParts test ns (array n t)
    of_struct : (fs : Fields) → HoldsOfFields test ns fs → HoldsOfParts test ns (struct fs)
    of_named : (id : ℕ) (u : Ty) → under_at ns id ≡ Some u → HoldsOfParts test ns u → HoldsOfParts test ns (named id)

  pub data HoldsOfFields (test : Ty → Bool) (ns : List NamedTy) : Fields → Type 0 where
    of_none : HoldsOfFields test ns no_fields
    of_more : (name package_ : List ℕ) (t : Ty) (embedded : Bool) (tag : List ℕ) (fs : Fields) → HoldsOfParts test ns t → HoldsOfFields test ns fs
        → HoldsOfFields test ns (more_fields name package_ t embedded tag fs)

-- "Comparison operators": boolean, integer, string, pointer, channel and interface values are comparable;
-- slice, map and function values are not; structs are where all their fields are, and arrays where their
-- elements are.
abbrev pub compares : Ty → Bool
compares bool = true
compares str = true
compares (int name) = true
compares (untyped basis) = true
compares (pointer t) = true
compares (chan d t) = true
compares (interface ms) = true
compares _ = false

abbrev pub IsComparable : List NamedTy → Ty → Type 0
IsComparable ns t = HoldsOfParts compares ns t

-- own: the keys of maps are booleans, integers, strings, and structs or arrays of these
abbrev pub is_key : Ty → Bool
is_key bool = true
is_key str = true
is_key (int name) = true
is_key _ = false

abbrev pub IsKeyType : List NamedTy → Ty → Type 0
IsKeyType ns t = HoldsOfParts is_key ns t

mutual
  -- own: the scalars of a type: those of its fields or elements together, and at least 1
  pub data HasSize (ns : List NamedTy) : Ty → ℕ → Type 0 where
    one_scalar : (t : Ty) → IsTrue (is_leaf t) → HasSize ns t 1
    elements : (n : ℕ) (t : Ty) (s : ℕ) → HasSize ns t s → HasSize ns (array n t) (max 1 (n * s))
    fields : (fs : Fields) (s : ℕ) → FieldsHaveSize ns fs s → HasSize ns (struct fs) (max 1 s)
    stands_for : (id : ℕ) (u : Ty) (s : ℕ) → under_at ns id ≡ Some u → HasSize ns u s → HasSize ns (named id) s

  pub data FieldsHaveSize (ns : List NamedTy) : Fields → ℕ → Type 0 where
    no_field : FieldsHaveSize ns no_fields 0
    one_more : (name package_ : List ℕ) (t : Ty) (embedded : Bool) (tag : List ℕ) (fs : Fields) (s r : ℕ) → HasSize ns t s → FieldsHaveSize ns fs r
        → FieldsHaveSize ns (more_fields name package_ t embedded tag fs) (s + r)

-- ---- by computing, to a depth

abbrev pub each_field : (Ty → Bool) → Fields → Bool
each_field p no_fields = true
each_field p (more_fields name package_ t embedded tag fs) = p t && each_field p fs

abbrev pub if_under : (Ty → Bool) → Option Ty → Bool
if_under p None = false
if_under p (Some u) = p u

-- one level, where p speaks of the parts
abbrev pub holds_at : (Ty → Bool) → List NamedTy → (Ty → Bool) → Ty → Bool
holds_at test ns p (array n t) = p t
holds_at test ns p (struct fs) = each_field p fs
holds_at test ns p (named id) = if_under p (under_at ns id)
holds_at test ns p t = test t

unfoldable pub holds_within : (Ty → Bool) → List NamedTy → ℕ → Ty → Bool
holds_within test ns zero t = false
holds_within test ns (suc n) t = holds_at test ns (holds_within test ns n) t

abbrev pub every : Ty → Bool
every t = true

-- the parts by value nest no deeper than the table has types. In a table, where each named type is set, a
-- type of which this doesn't hold contains itself, or holds by value a type that does.
abbrev pub IsFinite : TypeTable → TypeId → Type 0
IsFinite table t = IsTrue (holds_within every (names table) (size table) (tree_of (places table) t))

abbrev pub sum_fields : (Ty → ℕ) → Fields → ℕ
sum_fields p no_fields = 0
sum_fields p (more_fields name package_ t embedded tag fs) = p t + sum_fields p fs

abbrev pub under_size : (Ty → ℕ) → Option Ty → ℕ
under_size p None = 1
under_size p (Some u) = p u

abbrev pub size_at : List NamedTy → (Ty → ℕ) → Ty → ℕ
size_at ns p (array n t) = max 1 (n * p t)
size_at ns p (struct fs) = max 1 (sum_fields p fs)
size_at ns p (named id) = under_size p (under_at ns id)
size_at ns p t = 1

unfoldable pub size_within : List NamedTy → ℕ → Ty → ℕ
size_within ns zero t = 1
size_within ns (suc n) t = size_at ns (size_within ns n) t
