-- own: what is hashed of a level. Levels that are one are hashed alike; the rest is for speed alone.
use Rattle.std.specs.Prelude.{◌++◌, List}
use Rattle.std.specs.Hash.{HashWrites}
use Rattle.std.specs.Hash as fed
use Rattle.go_type.specs.declared.types.TypeId.{TypeId}
use Rattle.go_type.specs.declared.types.FieldRow.{FieldRow}
use Rattle.go_type.specs.declared.types.Sig.{Sig}
use Rattle.go_type.specs.declared.types.MethodSpec.{MethodSpec}
use Rattle.go_type.specs.declared.types.GoType.{GoType}
use Rattle.go_type.specs.declared.types.GoType.TheVariants as go
use Rattle.go_type.specs.Same.{int_code, basis_code}

abbrev pub id_hash : TypeId → HashWrites
id_hash t = fed.u64 t.0

abbrev pub ids_hash : List TypeId → HashWrites
ids_hash ts = fed.slice id_hash ts

abbrev pub field_hash : FieldRow → HashWrites
field_hash f = fed.slice (λ b. fed.u8 b) f.name ++ id_hash f.ty

abbrev pub fields_hash : List FieldRow → HashWrites
fields_hash fs = fed.slice field_hash fs

abbrev pub sig_hash : Sig → HashWrites
sig_hash s = ids_hash s.params ++ ids_hash s.results

abbrev pub spec_hash : MethodSpec → HashWrites
spec_hash m = fed.slice (λ b. fed.u8 b) m.name ++ sig_hash m.sig

abbrev pub specs_hash : List MethodSpec → HashWrites
specs_hash ms = fed.slice spec_hash ms

abbrev pub type_hash : GoType → HashWrites
type_hash go.Bool = fed.u8 0
type_hash go.Str = fed.u8 1
type_hash (go.Int n) = fed.u8 (int_code n)
type_hash go.Nil = fed.u8 2
type_hash (go.Untyped b) = fed.u8 (basis_code b)
type_hash (go.Array n t) = id_hash t
type_hash (go.Slice t) = id_hash t
type_hash (go.Struct fs) = fields_hash fs
type_hash (go.Pointer t) = id_hash t
type_hash (go.Func s) = sig_hash s
type_hash (go.Interface ms) = specs_hash ms
type_hash (go.Map k v) = id_hash v
type_hash (go.Chan d t) = id_hash t
type_hash (go.Named n) = fed.u64 n.0
type_hash (go.Tuple ts) = ids_hash ts
