use Rattle.std.proofs.Common.{drop}
use Rattle.std.specs.List.{AllByRecursion}
use Rattle.go_is_sound.specs.Facts.{Holds}
use Rattle.go_is_sound.specs.Packages.{HasInits}
use Rattle.go_is_sound.proofs.packages.all_have_inits.Given as goal

abbrev pub invariant-loop-row : goal.invariant-loop-row
invariant-loop-row l = Holds l.p l.facts → AllByRecursion (HasInits l.p) (drop l.row-index l.row-items) → AllByRecursion (HasInits l.p) l.row-items
