use Rattle.std.proofs.Common.{drop}
use Rattle.std.specs.List.{AllByRecursion}
use Rattle.go_is_sound.specs.Variables.{VarDiffers}
use Rattle.go_is_sound.proofs.variables.is_new_var.Given as goal

abbrev pub invariant-loop-y : goal.invariant-loop-y
invariant-loop-y l = AllByRecursion (VarDiffers l.x) (drop l.y-index l.others) → AllByRecursion (VarDiffers l.x) l.others
