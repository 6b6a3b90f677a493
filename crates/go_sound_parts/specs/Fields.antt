-- Fields as the definitions see them.
use Rattle.std.specs.Prelude.{List}
use Rattle.go_type.specs.Tree.{Ty}
use Rattle.go_type.specs.Levels.{tree_of}
use Rattle.go_type.specs.declared.types.FieldRow.{FieldRow}
use Rattle.go_core.specs.TypeOf.{FieldTy}

abbrev pub field_of : List Ty → FieldRow → FieldTy
field_of ts f = record { name = f.name; package_ = f.package; type_ = tree_of ts f.ty }
