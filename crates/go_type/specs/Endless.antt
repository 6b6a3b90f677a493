-- Types that contain themselves by value.
use Rattle.std.specs.Prelude.{◌≡◌, List, [], ◌∷◌, Option, Some, None, ◌⊎◌}
use Rattle.std.specs.List.{Contains}
use Rattle.go_type.specs.Tree.{Ty, Fields, array, struct, named, no_fields, more_fields}
use Rattle.go_type.specs.Named.{NamedTy}
use Rattle.go_type.specs.Underlying.{under_at}
use Rattle.go_type.specs.Levels.{tree_of}
use Rattle.go_type.specs.Table.{places, names}
use Rattle.go_type.specs.Parts.{HoldsOfParts, every}
use Rattle.go_type.specs.declared.types.TypeId.{TypeId}
use Rattle.go_type.specs.declared.table.TypeTable.{TypeTable}

-- the types of a struct's fields, in order
abbrev pub field_types : Fields → List Ty
field_types no_fields = []
field_types (more_fields name package_ t embedded tag fs) = t ∷ field_types fs

-- what a named type stands for, if that is set
abbrev pub if_set : Option Ty → List Ty
if_set None = []
if_set (Some u) = u ∷ []

-- the types that a type holds by value: those of an array's elements and of a struct's fields, and what a
-- named type stands for
abbrev pub parts : List NamedTy → Ty → List Ty
parts ns (array n t) = t ∷ []
parts ns (struct fs) = field_types fs
parts ns (named id) = if_set (under_at ns id)
parts ns _ = []

-- from a type to one that it holds by value, through as many others as need be, or to itself
pub data LeadsByValue (ns : List NamedTy) : Ty → Ty → Type 0 where
  stays : (t : Ty) → LeadsByValue ns t t
  goes_on : (t v u : Ty) → Contains (parts ns t) v → LeadsByValue ns v u → LeadsByValue ns t u

-- a part of it leads back to it
abbrev pub ContainsItself : List NamedTy → Ty → Type 0
ContainsItself ns t = (v : Ty) × Contains (parts ns t) v × LeadsByValue ns v t

-- a named type that stands for nothing yet
abbrev pub IsUnset : List NamedTy → Ty → Type 0
IsUnset ns (named id) = under_at ns id ≡ None
IsUnset ns _ = ⊥

-- it leads by value to a type that contains itself, or to a named type that isn't set
abbrev pub NeverEnds : List NamedTy → Ty → Type 0
NeverEnds ns t = (u : Ty) × LeadsByValue ns t u × (ContainsItself ns u ⊎ IsUnset ns u)

-- ---- of an id of a table

-- there is a derivation over the parts that it holds by value, however deep they nest
abbrev pub HasDerivation : TypeTable → TypeId → Type 0
HasDerivation table t = HoldsOfParts every (names table) (tree_of (places table) t)

-- the id's tree leads by value to a type that contains itself, or to a named type that isn't set
abbrev pub IsEndless : TypeTable → TypeId → Type 0
IsEndless table t = NeverEnds (names table) (tree_of (places table) t)
