use Rattle.std.proofs.Common.{arith, sym, ap, ◌∙◌}
use Rattle.go_type.specs.Levels.{tree_of}
use Rattle.go_type.specs.Table.{places}
use Rattle.go_type.specs.declared.table.TypeTable.{TypeTable}
use Rattle.go_stmt.proofs.stmt.made.text_type.Goals as goal

pub returns : goal.returns
returns c = record { value = ap (λ (t : TypeTable). tree_of (places t) (record { 0 = 1 })) (sym c.table-table.ensures.value) ∙ c.table-table.ensures.predeclared.begins (record { 0 = 1 }) (omega arith) }
