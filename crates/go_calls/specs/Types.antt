-- Types of the table.
use Rattle.std.specs.Prelude.{List, ◌<◌}
use Rattle.std.specs.List.{AllByRecursion}
use Rattle.go_type.specs.Table.{size}
use Rattle.go_type.specs.declared.types.TypeId.{TypeId}
use Rattle.go_type.specs.declared.table.TypeTable.{TypeTable}

abbrev pub IsTypeOf : TypeTable → TypeId → Type 0
IsTypeOf table t = t.0 < size table

abbrev pub AreTypesOf : TypeTable → List TypeId → Type 0
AreTypesOf table ts = AllByRecursion (IsTypeOf table) ts
