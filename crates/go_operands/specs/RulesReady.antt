-- What the rules need of a table.
use Rattle.std.specs.Prelude.{◌≡◌, ◌<◌, ◌≤◌}
use Rattle.go_type.specs.Levels.{tree_of}
use Rattle.go_type.specs.Predeclared.{predeclared}
use Rattle.go_type.specs.Table.{places, size}
use Rattle.go_type.specs.declared.types.TypeId.{TypeId}
use Rattle.go_type.specs.declared.table.TypeTable.{TypeTable}

-- a table begins with the predeclared types
pub record HasPredeclared (t : TypeTable) : Type 0 where
  pub begins : (i : TypeId) → i.0 < 20 → tree_of (places t) i ≡ tree_of predeclared i
  pub size : 20 ≤ size t
