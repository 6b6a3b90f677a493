-- What a measure says of a type: the names through which it holds others by value, its scalars, and whether these compare and can be keys.
use Rattle.std.specs.Prelude.{◌≡◌, ◌≤◌, ℕ, Bool, true, List, Option, Some, slice_get}
use Rattle.go_type.specs.Tree.{Ty, Fields}
use Rattle.go_type.specs.Named.{NamedTy}
use Rattle.go_type.specs.Levels.{tree_of}
use Rattle.go_type.specs.Parts.{compares, is_key}
use Rattle.go_type.specs.declared.types.TypeId.{TypeId}
use Rattle.go_core.specs.Layout.{size, parts_size, shape_with, parts_with, name_shape, holds_with, all_with, name_holds}
use Rattle.go_core.specs.SoundNode.{every}
use Rattle.go_sound_parts.specs.declared.measures.Measure.{Measure}

-- the test holds of all that the type holds by value, seen through so many names or more
abbrev pub HoldsFrom : List NamedTy → (Ty → Bool) → Ty → ℕ → Type 0
HoldsFrom ns test t names = (left : ℕ) → names ≤ left → holds_with test (name_holds test ns left) t ≡ true

abbrev pub HoldFrom : List NamedTy → (Ty → Bool) → Fields → ℕ → Type 0
HoldFrom ns test fs names = (left : ℕ) → names ≤ left → all_with test (name_holds test ns left) fs ≡ true

abbrev pub HasScalars : List NamedTy → Ty → ℕ → ℕ → Type 0
HasScalars ns t names n = (left : ℕ) → names ≤ left → size (shape_with (name_shape ns left) t) ≡ n

abbrev pub HaveScalars : List NamedTy → Fields → ℕ → ℕ → Type 0
HaveScalars ns fs names n = (left : ℕ) → names ≤ left → parts_size (parts_with (name_shape ns left) fs) ≡ n

pub record IsMeasured (ns : List NamedTy) (t : Ty) (m : Measure) : Type 0 where
  pub finite : HoldsFrom ns every t m.names
  pub scalars_fit : HasScalars ns t m.names m.scalars
  pub compares_fit : m.compares ≡ true → HoldsFrom ns compares t m.names
  pub key_fits : m.is_key ≡ true → HoldsFrom ns is_key t m.names

-- the same of fields together
pub record AreMeasured (ns : List NamedTy) (fs : Fields) (m : Measure) : Type 0 where
  pub finite : HoldFrom ns every fs m.names
  pub scalars_fit : HaveScalars ns fs m.names m.scalars
  pub compares_fit : m.compares ≡ true → HoldFrom ns compares fs m.names
  pub key_fits : m.is_key ≡ true → HoldFrom ns is_key fs m.names

-- what is known of types by their ids
abbrev pub AreKnown : List NamedTy → List Ty → List (Option Measure) → Type 0
AreKnown ns ts ms = (t : TypeId) (m : Measure) → slice_get ms t.0 ≡ Some (Some m) → IsMeasured ns (tree_of ts t) m
