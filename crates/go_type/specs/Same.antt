-- When two levels are one: the tests, part by part.
use Rattle.std.specs.Prelude.{ℕ, ◌==◌, Bool, true, false, not, ◌&&◌, bytes_eq}
use lib.Pointwise.{pointwise}
use Rattle.go_type.specs.declared.types.TypeId.{TypeId}
use Rattle.go_type.specs.declared.types.NamedId.{NamedId}
use Rattle.go_type.specs.declared.types.IntName.{IntName}
use Rattle.go_type.specs.declared.types.IntName.TheVariants as integer
use Rattle.go_type.specs.declared.types.Basis.{Basis}
use Rattle.go_type.specs.declared.types.Basis.TheVariants as basis
use Rattle.go_type.specs.declared.types.Dir.{Dir}
use Rattle.go_type.specs.declared.types.Dir.TheVariants as dir
use Rattle.go_type.specs.declared.types.FieldRow.{FieldRow}
use Rattle.go_type.specs.declared.types.Sig.{Sig}
use Rattle.go_type.specs.declared.types.MethodSpec.{MethodSpec}
use Rattle.go_type.specs.declared.types.GoType.{GoType}
use Rattle.go_type.specs.declared.types.GoType.TheVariants as go

abbrev pub same_truth : Bool → Bool → Bool
same_truth true b = b
same_truth false b = not b

-- the place of a name in its list
abbrev pub int_code : IntName → ℕ
int_code integer.Int = 0
int_code integer.Int8 = 1
int_code integer.Int16 = 2
int_code integer.Int32 = 3
int_code integer.Int64 = 4
int_code integer.Uint = 5
int_code integer.Uint8 = 6
int_code integer.Uint16 = 7
int_code integer.Uint32 = 8
int_code integer.Uint64 = 9
int_code integer.Uintptr = 10

abbrev pub basis_code : Basis → ℕ
basis_code basis.Bool = 0
basis_code basis.Int = 1
basis_code basis.Rune = 2
basis_code basis.Str = 3

abbrev pub dir_code : Dir → ℕ
dir_code dir.Both = 0
dir_code dir.Send = 1
dir_code dir.Receive = 2

abbrev pub int_eq : IntName → IntName → Bool
int_eq a b = int_code a == int_code b

abbrev pub basis_eq : Basis → Basis → Bool
basis_eq a b = basis_code a == basis_code b

abbrev pub dir_eq : Dir → Dir → Bool
dir_eq a b = dir_code a == dir_code b

abbrev pub id_eq : TypeId → TypeId → Bool
id_eq a b = a.0 == b.0

abbrev pub named_eq : NamedId → NamedId → Bool
named_eq a b = a.0 == b.0

abbrev pub field_eq : FieldRow → FieldRow → Bool
field_eq a b = bytes_eq a.name b.name && bytes_eq a.package b.package && id_eq a.ty b.ty && same_truth a.embedded b.embedded && bytes_eq a.tag b.tag

abbrev pub sig_eq : Sig → Sig → Bool
sig_eq a b = pointwise id_eq a.params b.params && pointwise id_eq a.results b.results && same_truth a.variadic b.variadic

abbrev pub spec_eq : MethodSpec → MethodSpec → Bool
spec_eq a b = bytes_eq a.name b.name && bytes_eq a.package b.package && sig_eq a.sig b.sig

abbrev pub type_eq : GoType → GoType → Bool
type_eq go.Bool go.Bool = true
type_eq go.Str go.Str = true
type_eq (go.Int a) (go.Int b) = int_eq a b
type_eq go.Nil go.Nil = true
type_eq (go.Untyped a) (go.Untyped b) = basis_eq a b
type_eq (go.Array m a) (go.Array n b) = m == n && id_eq a b
type_eq (go.Slice a) (go.Slice b) = id_eq a b
type_eq (go.Struct a) (go.Struct b) = pointwise field_eq a b
type_eq (go.Pointer a) (go.Pointer b) = id_eq a b
type_eq (go.Func a) (go.Func b) = sig_eq a b
type_eq (go.Interface a) (go.Interface b) = pointwise spec_eq a b
type_eq (go.Map k v) (go.Map l w) = id_eq k l && id_eq v w
type_eq (go.Chan d a) (go.Chan e b) = dir_eq d e && id_eq a b
type_eq (go.Named a) (go.Named b) = named_eq a b
type_eq (go.Tuple a) (go.Tuple b) = pointwise id_eq a b
type_eq _ _ = false
