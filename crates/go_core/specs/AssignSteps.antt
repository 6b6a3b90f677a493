-- The steps that store values: assignments, ranges, and a receiver that is read through a pointer.
use Rattle.std.specs.Prelude.{◌≡◌, ℕ, List, [], ◌∷◌, Some, slice_get}
use Rattle.go_core.specs.CoreTree.{CoreProgram}
use Rattle.go_core.specs.SoundProgram.{Sound}
use Rattle.go_core.specs.Goroutine as task
use Rattle.go_core.specs.Goroutine.{Task, Frame, able, Goroutine, State, Move}
use Rattle.go_core.specs.GoStep.{goroutine_step}
use Rattle.go_core.specs.WellFormed.{WellFormed}
use Rattle.go_core.specs.LocalSteps.{KeepsWell}
use Rattle.go_core.specs.CommunicationSteps.{GoesWell}

-- both phases of an assignment, the beginning of a range, and a receiver's value
abbrev pub IsStore : Task → Type 0
IsStore (task.assign xs n) = Unit {0}
IsStore (task.assign_rest xs operands values) = Unit {0}
IsStore (task.begin_range r) = Unit {0}
IsStore (task.receive_through v) = Unit {0}
IsStore _ = ⊥

-- a turn of a range
abbrev pub IsRangeTurn : Task → Type 0
IsRangeTurn (task.next_range r c) = Unit {0}
IsRangeTurn _ = ⊥

-- the first task that is a step is one of these
abbrev pub StartsStore : List Task → Type 0
StartsStore [] = ⊥
StartsStore (task.drop_values n ∷ ts) = StartsStore ts
StartsStore (task.push_value x ∷ ts) = StartsStore ts
StartsStore (task.leave label ∷ ts) = StartsStore ts
StartsStore (t ∷ ts) = IsStore t

abbrev pub StartsRangeTurn : List Task → Type 0
StartsRangeTurn [] = ⊥
StartsRangeTurn (task.drop_values n ∷ ts) = StartsRangeTurn ts
StartsRangeTurn (task.push_value x ∷ ts) = StartsRangeTurn ts
StartsRangeTurn (task.leave label ∷ ts) = StartsRangeTurn ts
StartsRangeTurn (t ∷ ts) = IsRangeTurn t

-- an able goroutine whose next step stores has it, and the state after it is well formed
abbrev pub StoresKeep : Type 0
StoresKeep =
    (p : CoreProgram) (choices : List ℕ) (move : Move) (g : ℕ) (f : Frame) (below : List Frame) (s : State)
    → Sound p → WellFormed p s → slice_get s.goroutines g ≡ Some (record { frames = f ∷ below; waiting = able }) → StartsStore f.tasks
    → KeepsWell p (goroutine_step p choices move g (slice_get s.goroutines g) s)

-- a range over a map goes on by some move, and not by one that names an entry which is not to be produced
abbrev pub RangeTurnsKeep : Type 0
RangeTurnsKeep =
    (p : CoreProgram) (choices : List ℕ) (g : ℕ) (f : Frame) (below : List Frame) (s : State)
    → Sound p → WellFormed p s → slice_get s.goroutines g ≡ Some (record { frames = f ∷ below; waiting = able }) → StartsRangeTurn f.tasks
    → GoesWell p g (λ move. goroutine_step p choices move g (slice_get s.goroutines g) s)
