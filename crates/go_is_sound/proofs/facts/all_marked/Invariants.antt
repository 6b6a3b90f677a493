use Rattle.std.proofs.Common.{drop}
use Rattle.std.specs.List.{AllByRecursion}
use Rattle.go_is_sound.specs.Facts.{IsMarked}
use Rattle.go_is_sound.proofs.facts.all_marked.Given as goal

abbrev pub invariant-loop-row : goal.invariant-loop-row
invariant-loop-row l = AllByRecursion (IsMarked l.is_method) (drop l.row-index l.row-items) → AllByRecursion (IsMarked l.is_method) l.row-items
