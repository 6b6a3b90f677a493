-- Go specification (as of Go 1.17), "Predeclared identifiers": the types of a new table.
use Rattle.std.specs.Prelude.{List, [], ◌∷◌, ◌++◌, Some, false, codes}
use Rattle.go_type.specs.Tree.{Ty, bool, str, int, nil, untyped, interface, named, no_tys, more_tys, no_specs, more_specs}
use Rattle.go_type.specs.Named.{NamedTy}
use Rattle.go_type.specs.declared.types.IntName.TheVariants as integer
use Rattle.go_type.specs.declared.types.Basis.TheVariants as basis
use Rattle.go_type.specs.declared.types.MethodSpec.{MethodSpec}
use Rattle.go_type.specs.declared.types.GoType.{GoType}
use Rattle.go_type.specs.declared.types.GoType.TheVariants as go

-- a string, a truth value, `nil` and untyped constants
abbrev pub word_levels : List GoType
word_levels = go.Bool ∷ go.Str ∷ go.Nil ∷ go.Untyped basis.Bool ∷ go.Untyped basis.Int ∷ go.Untyped basis.Rune ∷ go.Untyped basis.Str ∷ []

abbrev pub int_levels : List GoType
int_levels = go.Int integer.Int ∷ go.Int integer.Int8 ∷ go.Int integer.Int16 ∷ go.Int integer.Int32 ∷ go.Int integer.Int64 ∷ go.Int integer.Uint ∷ go.Int integer.Uint8 ∷ go.Int integer.Uint16 ∷ go.Int integer.Uint32 ∷ go.Int integer.Uint64 ∷ go.Int integer.Uintptr ∷ []

-- the method `Error() string`
abbrev pub error_spec : MethodSpec
error_spec = record { name = codes "Error"; «package» = []; sig = record { params = []; results = record { 0 = 1 } ∷ []; variadic = false } }

-- the interface with the method `Error() string`
abbrev pub error_levels : List GoType
error_levels = go.Interface (error_spec ∷ []) ∷ go.Named (record { 0 = 0 }) ∷ []

abbrev pub predeclared_levels : List GoType
predeclared_levels = word_levels ++ int_levels ++ error_levels

-- ---- as trees

abbrev pub error_interface : Ty
error_interface = interface (more_specs (codes "Error") [] no_tys (more_tys str no_tys) false no_specs)

-- the tree of each id of a new table
abbrev pub predeclared : List Ty
predeclared = bool ∷ str ∷ nil ∷ untyped basis.Bool ∷ untyped basis.Int ∷ untyped basis.Rune ∷ untyped basis.Str
    ∷ int integer.Int ∷ int integer.Int8 ∷ int integer.Int16 ∷ int integer.Int32 ∷ int integer.Int64
    ∷ int integer.Uint ∷ int integer.Uint8 ∷ int integer.Uint16 ∷ int integer.Uint32 ∷ int integer.Uint64 ∷ int integer.Uintptr
    ∷ error_interface ∷ named 0 ∷ []

abbrev pub predeclared_names : List NamedTy
predeclared_names = record { name = codes "error"; package_ = []; under = Some error_interface; methods = [] } ∷ []
