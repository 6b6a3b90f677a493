-- A step of the meaning, beside what is passed over before it.
use Rattle.std.specs.Prelude.{◌≡◌, ℕ, List}
use Rattle.go_core.specs.CoreTree.{CoreProgram}
use Rattle.go_core.specs.Goroutine.{Task, Frame, State, Move}
use Rattle.go_core.specs.GoStep.{tasks_step}
use Rattle.go_state.specs.Passed.{passed}

-- the step of a frame's tasks is that of what is left of them, with the values that are left
abbrev pub StepsPast : Type 0
StepsPast =
    (p : CoreProgram) (choices : List ℕ) (move : Move) (g : ℕ) (ts : List Task) (f : Frame) (below : List Frame) (s : State)
    → tasks_step p choices move g ts f below s
    ≡ tasks_step p choices move g (passed ts f.values).tasks (record f { values = (passed ts f.values).values }) below s
