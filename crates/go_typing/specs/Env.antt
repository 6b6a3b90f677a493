-- Go specification (as of Go 1.17), "Declarations and scope", "Predeclared identifiers", "Blank identifier", "Iota":
-- what names stand for.
use Rattle.std.specs.Prelude.{ℕ, pos, List, [], ◌∷◌, ◌++◌, Bool, true, false, Option, Some, None, map, codes, bytes_eq, if◌then◌else◌}
use Rattle.gj_base.specs.declared.place.Place.{Place}
use Rattle.go_const.specs.declared.constant.Const.{Const}
use Rattle.go_const.specs.declared.constant.Const.TheVariants as form
use Rattle.go_type.specs.declared.types.IntName.TheVariants as integer
use Rattle.go_type.specs.declared.types.Basis.TheVariants as basis
use Rattle.go_type.specs.Tree as ty
use Rattle.go_type.specs.Tree.{Ty, Tys}

pub data Builtin : Type 0 where
  Append : Builtin
  Cap : Builtin
  Close : Builtin
  Complex : Builtin
  Copy : Builtin
  Delete : Builtin
  Imag : Builtin
  Len : Builtin
  Make : Builtin
  New : Builtin
  Panic : Builtin
  Print : Builtin
  Println : Builtin
  Real : Builtin
  Recover : Builtin

-- what a name stands for
pub data Decl : Type 0 where
  -- a variable of a function by its number
  variable : (id : ℕ) → Ty → Decl
  -- a package variable by its place in the program's list
  global : (number : ℕ) → Ty → Decl
  -- a constant; its type is an untyped one where it has none
  constant : Const → Ty → Decl
  type_name : Ty → Decl
  function : (id : ℕ) → (params results : Tys) → (variadic : Bool) → Decl
  -- an imported package by its path
  imported : (path : List ℕ) → Decl
  built_in : Builtin → Decl
  nil_value : Decl
  -- own: each use of the name is a fault with this code
  refused : (code : ℕ) → Decl
  -- own: its declaration isn't typed; what uses it isn't either, and has no fault of its own
  unknown : Decl

-- a declaration: the name, where it stands, and what it stands for
pub record Bind : Type 0 where
  pub name : List ℕ
  pub place : Place
  pub what : Decl

-- ---- look-up

-- what the name stands for in one scope
abbrev pub find : List ℕ → List Bind → Option Decl
find x [] = None
find x (b ∷ bs) = if bytes_eq b.name x then Some b.what else find x bs

abbrev pub or_in : Option Decl → Option Decl → Option Decl
or_in (Some d) o = Some d
or_in None o = o

-- "Declarations and scope": the innermost scope that has the name decides. It is the last one.
abbrev pub lookup : List ℕ → List (List Bind) → Option Decl
lookup x [] = None
lookup x (s ∷ ss) = or_in (lookup x ss) (find x s)

-- "Blank identifier": `_` is declared nowhere
abbrev pub is_blank : List ℕ → Bool
is_blank x = bytes_eq x (95 ∷ [])

-- ---- the universe

-- own: predeclared names stand nowhere
abbrev pub nowhere : Place
nowhere = record { file = 0; offset = 0 }

abbrev pub predeclared : List ℕ → Decl → Bind
predeclared name what = record { name = name; place = nowhere; what = what }

abbrev pub int_type : Ty
int_type = ty.int integer.Int

abbrev pub uint_type : Ty
uint_type = ty.int integer.Uint

abbrev pub byte_type : Ty
byte_type = ty.int integer.Uint8

abbrev pub rune_type : Ty
rune_type = ty.int integer.Int32

abbrev pub truth_constant : Bool → Decl
truth_constant b = constant (form.Bool b) (ty.untyped basis.Bool)

-- own: floats and complex numbers are not in the profile (71)
abbrev pub predeclared_types : List Bind
predeclared_types =
    predeclared (codes "bool") (type_name ty.bool) ∷ predeclared (codes "byte") (type_name byte_type)
    ∷ predeclared (codes "complex64") (refused 71) ∷ predeclared (codes "complex128") (refused 71)
    -- the form of this type is not built yet
    ∷ predeclared (codes "error") (refused 0)
    ∷ predeclared (codes "float32") (refused 71) ∷ predeclared (codes "float64") (refused 71)
    ∷ predeclared (codes "int") (type_name int_type) ∷ predeclared (codes "int8") (type_name (ty.int integer.Int8))
    ∷ predeclared (codes "int16") (type_name (ty.int integer.Int16)) ∷ predeclared (codes "int32") (type_name (ty.int integer.Int32))
    ∷ predeclared (codes "int64") (type_name (ty.int integer.Int64)) ∷ predeclared (codes "rune") (type_name rune_type)
    ∷ predeclared (codes "string") (type_name ty.str) ∷ predeclared (codes "uint") (type_name uint_type)
    ∷ predeclared (codes "uint8") (type_name (ty.int integer.Uint8)) ∷ predeclared (codes "uint16") (type_name (ty.int integer.Uint16))
    ∷ predeclared (codes "uint32") (type_name (ty.int integer.Uint32)) ∷ predeclared (codes "uint64") (type_name (ty.int integer.Uint64))
    ∷ predeclared (codes "uintptr") (type_name (ty.int integer.Uintptr)) ∷ []

abbrev pub name_of_builtin : Builtin → List ℕ
name_of_builtin Append = codes "append"
name_of_builtin Cap = codes "cap"
name_of_builtin Close = codes "close"
name_of_builtin Complex = codes "complex"
name_of_builtin Copy = codes "copy"
name_of_builtin Delete = codes "delete"
name_of_builtin Imag = codes "imag"
name_of_builtin Len = codes "len"
name_of_builtin Make = codes "make"
name_of_builtin New = codes "new"
name_of_builtin Panic = codes "panic"
name_of_builtin Print = codes "print"
name_of_builtin Println = codes "println"
name_of_builtin Real = codes "real"
name_of_builtin Recover = codes "recover"

abbrev pub predeclared_function : Builtin → Bind
predeclared_function b = predeclared (name_of_builtin b) (built_in b)

abbrev pub predeclared_functions : List Bind
predeclared_functions =
    map predeclared_function (Append ∷ Cap ∷ Close ∷ Complex ∷ Copy ∷ Delete ∷ Imag ∷ Len ∷ Make ∷ New ∷ Panic ∷ Print ∷ Println ∷ Real ∷ Recover ∷ [])

-- "Iota": the number of the constant specification in its declaration; own: outside of one there is no such name
abbrev pub iota_in : Option ℕ → List Bind
iota_in None = []
iota_in (Some n) = predeclared (codes "iota") (constant (form.Int (pos n)) (ty.untyped basis.Int)) ∷ []

-- the universe scope, in a constant specification or outside of one
abbrev pub universe : Option ℕ → List Bind
universe iota =
    predeclared_types ++ predeclared (codes "true") (truth_constant true) ∷ predeclared (codes "false") (truth_constant false)
    ∷ iota_in iota ++ predeclared (codes "nil") nil_value ∷ predeclared_functions
