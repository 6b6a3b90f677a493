-- The states that runs come to.
use Rattle.std.specs.Prelude.{ℕ, List}
use Rattle.go_core.specs.CoreTree.{CoreProgram, InitStep}
use Rattle.go_core.specs.Goroutine.{State}
use Rattle.go_core.specs.Run.{IsReached}

-- with some numbers for `select` statements, some run of the program comes to this state
abbrev pub IsOfSomeRun : CoreProgram → List InitStep → State → Type 0
IsOfSomeRun p order s = (choices : List ℕ) × IsReached p order choices s
