use Rattle.std.proofs.Common.{drop}
use Rattle.std.specs.List.{AllByRecursion}
use Rattle.go_is_sound.specs.Facts.{Holds}
use Rattle.go_is_sound.specs.Whole.{VarSound}
use Rattle.go_is_sound.proofs.sound.vars_are_sound.Given as goal

abbrev pub invariant-loop-x : goal.invariant-loop-x
invariant-loop-x l = Holds l.p l.facts → AllByRecursion (VarSound l.p) (drop l.x-index l.x-items) → AllByRecursion (VarSound l.p) l.x-items
