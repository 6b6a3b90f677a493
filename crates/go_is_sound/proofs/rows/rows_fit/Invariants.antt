use Rattle.std.proofs.Common.{drop}
use Rattle.std.specs.List.{AllByRecursion}
use Rattle.go_is_sound.specs.Rows.{RowFits}
use Rattle.go_is_sound.proofs.rows.rows_fit.Given as goal

abbrev pub invariant-loop-row : goal.invariant-loop-row
invariant-loop-row l = AllByRecursion (RowFits l.p) (drop l.row-index l.row-items) → AllByRecursion (RowFits l.p) l.row-items
