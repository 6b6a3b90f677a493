-- What holds of every run.
use Rattle.std.specs.Prelude.{◌≡◌, ◌≢◌, ℕ, List, ◌++◌, false, Some, None, option_and_then}
use Rattle.go_core.specs.CoreTree.{CoreProgram}
use Rattle.go_core.specs.Communicate.{any_moves}
use Rattle.go_core.specs.Goroutine.{State, Move, going}
use Rattle.go_core.specs.Run.{step, after, deadlocked}

-- a run extends by a run
abbrev pub RunsExtend : Type 0
RunsExtend = (p : CoreProgram) (choices : List ℕ) (xs ys : List Move) (s : State) → after p choices (xs ++ ys) s ≡ option_and_then (after p choices ys) (after p choices xs s)

-- where a run has ended it has no step
abbrev pub EndsStay : Type 0
EndsStay = (p : CoreProgram) (choices : List ℕ) (move : Move) (s : State) → s.end ≢ going → step p choices move s ≡ None

-- where no goroutine can move, the only step is the deadlock's end
abbrev pub DeadlocksEnd : Type 0
DeadlocksEnd = (p : CoreProgram) (choices : List ℕ) (move : Move) (s : State) → s.end ≡ going → any_moves 0 s.goroutines s ≡ false → step p choices move s ≡ Some (deadlocked s)
