-- A new table begins with the predeclared types.
use Rattle.std.proofs.Common.{◌≡◌, ap, arith}
use Rattle.go_type.specs.Levels.{tree_of}
use Rattle.go_type.specs.Predeclared.{predeclared}
use Rattle.go_type.specs.Table.{places, size}
use Rattle.go_type.specs.declared.table.TypeTable.{TypeTable}
use Rattle.go_operands.specs.RulesReady.{HasPredeclared}

pub begins : (t : TypeTable) → places t ≡ predeclared → size t ≡ 20 → HasPredeclared t
begins t h k = record { begins = λ i l. ap (λ ts. tree_of ts i) h; size = omega arith }
