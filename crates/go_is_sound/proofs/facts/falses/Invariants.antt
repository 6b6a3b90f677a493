use Rattle.go_core.specs.CoreTree.{CoreProgram}
use Rattle.go_is_sound.specs.Rows.{AreDeclared}
use Rattle.go_is_sound.proofs.facts.falses.Given as goal

abbrev pub invariant-marks : goal.invariant-marks
invariant-marks l = (q : CoreProgram) → AreDeclared q l.list.items
