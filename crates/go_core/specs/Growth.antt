-- What only grows in a run: memory, printed bytes, the count of numbers that were taken, and units.
use Rattle.std.specs.Prelude.{◌≡◌, ◌≤◌, ℕ, List, ◌++◌, length, Option, Some, None}
use Rattle.go_core.specs.Memory.{Memory}
use Rattle.go_core.specs.CoreTree.{CoreProgram}
use Rattle.go_core.specs.Goroutine.{State, Move}
use Rattle.go_core.specs.Run.{step, after}

-- no place, no map and no channel goes away, so a base stays the base of its variable
pub record MemoryGrows (old new : Memory) : Type 0 where
  pub cells_stay : length old.cells ≤ length new.cells
  pub maps_stay : length old.maps ≤ length new.maps
  pub channels_stay : length old.channels ≤ length new.channels

pub record Grows (old new : State) : Type 0 where
  pub memory_grows : MemoryGrows old.memory new.memory
  pub more : List ℕ
  pub printed_grows : new.printed ≡ old.printed ++ more
  pub taken_rises : old.taken ≤ new.taken
  pub units_rise : old.units ≤ new.units

-- the state after it, if there is one, has grown
abbrev pub OnStep : State → Option State → Type 0
OnStep s None = Unit {0}
OnStep s (Some s') = Grows s s'

abbrev pub StepsGrow : Type 0
StepsGrow = (p : CoreProgram) (choices : List ℕ) (move : Move) (s : State) → OnStep s (step p choices move s)

abbrev pub RunsGrow : Type 0
RunsGrow = (p : CoreProgram) (choices : List ℕ) (moves : List Move) (s : State) → OnStep s (after p choices moves s)
