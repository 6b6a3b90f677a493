use Rattle.std.proofs.Common.{drop}
use Rattle.std.specs.List.{AllByRecursion}
use Rattle.go_is_sound.specs.Packages.{PathDiffers}
use Rattle.go_is_sound.proofs.packages.is_new_path.Given as goal

abbrev pub invariant-loop-other : goal.invariant-loop-other
invariant-loop-other l = AllByRecursion (PathDiffers l.row) (drop l.other-index l.others) → AllByRecursion (PathDiffers l.row) l.others
