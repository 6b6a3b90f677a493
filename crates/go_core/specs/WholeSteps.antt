-- The steps of a whole state: each leaves a well formed state, so each state that a run reaches is one, and a run that
-- has not ended has a next step.
use Rattle.std.specs.Prelude.{◌≡◌, ℕ, List, ◌∷◌, Some, slice_get}
use Rattle.go_core.specs.CoreTree.{InitStep, CoreProgram}
use Rattle.go_core.specs.SoundProgram.{Sound}
use Rattle.go_core.specs.Goroutine.{Frame, able, State, going, Move}
use Rattle.go_core.specs.GoStep.{goroutine_step}
use Rattle.go_core.specs.Run.{step, IsReached}
use Rattle.go_core.specs.WellFormed.{WellFormed}
use Rattle.go_core.specs.TypingLaws.{OrderFits}
use Rattle.go_core.specs.CommunicationSteps.{IsThere, KeepsIfThere, GoesWell}

-- an able goroutine has a step by some move of its own, and by each move that can be made the state after it is well formed
abbrev pub AbleGoWell : Type 0
AbleGoWell =
    (p : CoreProgram) (choices : List ℕ) (g : ℕ) (f : Frame) (below : List Frame) (s : State)
    → Sound p → WellFormed p s → slice_get s.goroutines g ≡ Some (record { frames = f ∷ below; waiting = able })
    → GoesWell p g (λ move. goroutine_step p choices move g (slice_get s.goroutines g) s)

-- a move that can be made leaves a well formed state
abbrev pub StepsKeep : Type 0
StepsKeep = (p : CoreProgram) (choices : List ℕ) (move : Move) (s : State) → Sound p → WellFormed p s → KeepsIfThere p (step p choices move s)

-- each state that some run of the program comes to is well formed
abbrev pub ReachedWellFormed : Type 0
ReachedWellFormed = (p : CoreProgram) (order : List InitStep) (choices : List ℕ) (s : State) → Sound p → OrderFits p order → IsReached p order choices s → WellFormed p s

-- some move can be made as long as the run has not ended
abbrev pub GoingGoesOn : Type 0
GoingGoesOn = (p : CoreProgram) (choices : List ℕ) (s : State) → Sound p → WellFormed p s → s.end ≡ going → (move : Move) × IsThere (step p choices move s)
