-- Go specification (as of Go 1.17), "Calls", "Go statements", "Defer statements", "Return statements", "Handling
-- panics": the steps by which frames come and go.
use Rattle.std.specs.Prelude.{◌≡◌, ℕ, List, [], ◌∷◌, Some, slice_get}
use Rattle.go_core.specs.CoreTree.{CoreProgram}
use Rattle.go_core.specs.SoundProgram.{Sound}
use Rattle.go_core.specs.Goroutine as task
use Rattle.go_core.specs.Goroutine.{Task, Frame, able, State, Move}
use Rattle.go_core.specs.GoStep.{goroutine_step}
use Rattle.go_core.specs.WellFormed.{WellFormed}
use Rattle.go_core.specs.LocalSteps.{KeepsWell}

-- calls, go and defer statements, `recover`, and the end of the program
abbrev pub IsCall : Task → Type 0
IsCall (task.call_with c n) = Unit {0}
IsCall (task.go_with c n) = Unit {0}
IsCall (task.defer_with c n) = Unit {0}
IsCall task.recover_here = Unit {0}
IsCall task.finish = Unit {0}
IsCall _ = ⊥

-- the first task that is a step is one of these, or nothing is left of the body: then the frame ends
abbrev pub StartsCall : List Task → Type 0
StartsCall [] = Unit {0}
StartsCall (task.drop_values n ∷ ts) = StartsCall ts
StartsCall (task.push_value x ∷ ts) = StartsCall ts
StartsCall (task.leave label ∷ ts) = StartsCall ts
StartsCall (t ∷ ts) = IsCall t

-- an able goroutine whose next step is of these kinds has it, and the state after it is well formed
abbrev pub CallStepsKeep : Type 0
CallStepsKeep =
    (p : CoreProgram) (choices : List ℕ) (move : Move) (g : ℕ) (f : Frame) (below : List Frame) (s : State)
    → Sound p → WellFormed p s → slice_get s.goroutines g ≡ Some (record { frames = f ∷ below; waiting = able }) → StartsCall f.tasks
    → KeepsWell p (goroutine_step p choices move g (slice_get s.goroutines g) s)
