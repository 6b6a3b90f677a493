-- Go specification (as of Go 1.17), "Types", "Struct types", "Array types": how a value of a type lies in
-- memory, as scalars one after another. own: a type without scalars takes one.
use Rattle.std.specs.Prelude.{ℕ, zero, suc, ◌+◌, List, [], ◌∷◌, ◌++◌, Bool, true, false, ◌&&◌, not, bytes_eq, replicate, Option, Some, None, length}
use Rattle.gj_base.specs.declared.kind.Kind.{Kind}
use Rattle.gj_base.specs.declared.kind.Kind.TheVariants.{I8, I16, I32, I64, U8, U16, U32, U64}
use Rattle.go_type.specs.declared.types.IntName.{IntName}
use Rattle.go_type.specs.declared.types.IntName.TheVariants as integer
use Rattle.go_type.specs.Tree.{Ty, Fields, bool, str, int, array, slice, struct, pointer, func, interface, mapping, chan, named, no_fields, more_fields}
use Rattle.go_type.specs.Named.{NamedTy}
use Rattle.go_type.specs.Underlying.{under_at}
use Rattle.go_type.specs.Parts.{compares, is_key}

-- own: `int`, `uint` and `uintptr` have 32 bits
abbrev pub kind_of : IntName → Kind
kind_of integer.Int = I32
kind_of integer.Int8 = I8
kind_of integer.Int16 = I16
kind_of integer.Int32 = I32
kind_of integer.Int64 = I64
kind_of integer.Uint = U32
kind_of integer.Uint8 = U8
kind_of integer.Uint16 = U16
kind_of integer.Uint32 = U32
kind_of integer.Uint64 = U64
kind_of integer.Uintptr = U32

-- what one scalar is of
pub data ScalarKind : Type 0 where
  a_truth : ScalarKind
  a_number : (kind : Kind) → ScalarKind
  a_text : ScalarKind
  a_pointer : ScalarKind
  a_slice : ScalarKind
  a_function : ScalarKind
  an_interface : ScalarKind
  a_map : ScalarKind
  a_channel : ScalarKind

mutual
  -- one scalar, or the fields of a struct or the elements of an array
  pub data Shape : Type 0 where
    one : (kind : ScalarKind) → Shape
    many : (parts : Parts) → Shape

  -- in order; blank fields aren't compared
  pub data Parts : Type 0 where
    no_parts : Parts
    part : (compared : Bool) (shape : Shape) (others : Parts) → Parts

-- an array's elements
abbrev pub copies : ℕ → Shape → Parts
copies zero s = no_parts
copies (suc n) s = part true s (copies n s)

abbrev pub is_blank : List ℕ → Bool
is_blank name = bytes_eq name (95 ∷ [])

module _ (of_name : ℕ → Shape) where
  abbrev mutual
    -- the shape of a type, where that of each named type is known
    pub shape_with : Ty → Shape
    shape_with bool = one a_truth
    shape_with str = one a_text
    shape_with (int name) = one (a_number (kind_of name))
    shape_with (array n t) = many (copies n (shape_with t))
    shape_with (slice t) = one a_slice
    shape_with (struct fs) = many (parts_with fs)
    shape_with (pointer t) = one a_pointer
    shape_with (func ps rs v) = one a_function
    shape_with (interface ms) = one an_interface
    shape_with (mapping k v) = one a_map
    shape_with (chan d t) = one a_channel
    shape_with (named id) = of_name id
    shape_with t = one a_pointer

    pub parts_with : Fields → Parts
    parts_with no_fields = no_parts
    parts_with (more_fields name package_ t embedded tag fs) = part (not (is_blank name)) (shape_with t) (parts_with fs)

abbrev pub shape_under : (Ty → Shape) → Option Ty → Shape
shape_under of_type None = one a_pointer
shape_under of_type (Some t) = of_type t

-- the shape of a named type, through so many names: none holds itself by value
abbrev pub name_shape : List NamedTy → ℕ → ℕ → Shape
name_shape ns zero id = one a_pointer
name_shape ns (suc n) id = shape_under (shape_with (name_shape ns n)) (under_at ns id)

-- the shape of a type's values
abbrev pub shape_of : List NamedTy → Ty → Shape
shape_of ns t = shape_with (name_shape ns (length ns)) t

abbrev pub at_least_one : ℕ → ℕ
at_least_one zero = 1
at_least_one (suc n) = suc n

abbrev mutual
  -- how many scalars
  pub size : Shape → ℕ
  size (one kind) = 1
  size (many ps) = at_least_one (parts_size ps)

  pub parts_size : Parts → ℕ
  parts_size no_parts = 0
  parts_size (part compared s ps) = size s + parts_size ps

abbrev mutual
  -- how many structs and arrays, at all depths
  pub composites : Shape → ℕ
  composites (one kind) = 0
  composites (many ps) = suc (parts_composites ps)

  pub parts_composites : Parts → ℕ
  parts_composites no_parts = 0
  parts_composites (part compared s ps) = composites s + parts_composites ps

-- own: what a value takes of units: its scalars, and the structs and arrays in it
abbrev pub weight : Shape → ℕ
weight s = size s + composites s

-- the field or element at a place, with its offset
pub data Located : Type 0 where
  nowhere : Located
  located : (shape : Shape) (offset : ℕ) → Located

abbrev pub further : ℕ → Located → Located
further n nowhere = nowhere
further n (located s offset) = located s (n + offset)

abbrev pub nth_part : Parts → ℕ → Located
nth_part no_parts n = nowhere
nth_part (part compared s ps) zero = located s 0
nth_part (part compared s ps) (suc n) = further (size s) (nth_part ps n)

abbrev pub part_of : Shape → ℕ → Located
part_of (one kind) n = nowhere
part_of (many ps) n = nth_part ps n

abbrev pub offset_in : Located → ℕ
offset_in nowhere = 0
offset_in (located s offset) = offset

abbrev pub padded_flags : List Bool → List Bool
padded_flags [] = false ∷ []
padded_flags (b ∷ bs) = b ∷ bs

abbrev mutual
  -- of each scalar in order, whether a comparison looks at it
  pub flags : Shape → List Bool
  flags (one kind) = true ∷ []
  flags (many ps) = padded_flags (parts_flags ps)

  pub parts_flags : Parts → List Bool
  parts_flags no_parts = []
  parts_flags (part true s ps) = flags s ++ parts_flags ps
  parts_flags (part false s ps) = replicate (size s) false ++ parts_flags ps

module _ (test : Ty → Bool) (of_name : ℕ → Bool) where
  abbrev mutual
    -- a test of the types that a type holds by value, where its answer for each named type is known
    pub holds_with : Ty → Bool
    holds_with (array n t) = holds_with t
    holds_with (struct fs) = all_with fs
    holds_with (named id) = of_name id
    holds_with t = test t

    pub all_with : Fields → Bool
    all_with no_fields = true
    all_with (more_fields name package_ t embedded tag fs) = holds_with t && all_with fs

abbrev pub holds_under : (Ty → Bool) → Option Ty → Bool
holds_under test None = false
holds_under test (Some t) = test t

abbrev pub name_holds : (Ty → Bool) → List NamedTy → ℕ → ℕ → Bool
name_holds test ns zero id = false
name_holds test ns (suc n) id = holds_under (holds_with test (name_holds test ns n)) (under_at ns id)

abbrev pub holds_by_value : (Ty → Bool) → List NamedTy → Ty → Bool
holds_by_value test ns t = holds_with test (name_holds test ns (length ns)) t

-- "Comparison operators": whether values of the type can be compared
abbrev pub is_comparable : List NamedTy → Ty → Bool
is_comparable ns t = holds_by_value compares ns t

-- own: whether the type can be a map's key
abbrev pub is_key_type : List NamedTy → Ty → Bool
is_key_type ns t = holds_by_value is_key ns t
