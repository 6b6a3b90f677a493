-- What a step comes to that changes its frame, the memory and the units alone: from any frames below, and in any state
-- with that memory.
use Rattle.std.specs.Prelude.{◌≡◌, ℕ, ◌+◌, List, ◌∷◌, Option, Some, None, Result, Ok, Err}
use Rattle.go_type.specs.Tree.{Ty}
use Rattle.go_core.specs.CoreTree.{CoreProgram}
use Rattle.go_core.specs.Goroutine as defined
use Rattle.go_core.specs.Goroutine.{moved, with_memory}
use Rattle.go_core.specs.Frames.{panic_step}
use Rattle.go_values.specs.ValuesSeen.{panic_of, memory_of}
use Rattle.go_values.specs.declared.values.memory.Memory.{Memory}
use Rattle.go_values.specs.declared.operators.did.Stop.{Stop}
use Rattle.go_values.specs.declared.operators.did.Stop.TheVariants as stop
use Rattle.go_state.specs.StateSeen.{frame_of}
use Rattle.go_state.specs.declared.state.frame.Frame.{Frame}

-- a step of a goroutine's running frame
abbrev pub FrameStep : Type 0
FrameStep = (g : ℕ) → defined.Frame → List defined.Frame → defined.State → Option defined.State

module _ (p : CoreProgram) (ts : List Ty) where
  -- what a frame comes to that doesn't go on; a panic finds it as it is then
  abbrev pub Halts : Stop → Frame → Memory → (ℕ → List defined.Frame → defined.State → Option defined.State) → Type 0
  Halts stop.NoMemory f m step = Unit {0}
  Halts stop.NoStep f m step = (g : ℕ) (below : List defined.Frame) (s : defined.State) → step g below s ≡ None
  Halts (stop.Panics panic units) f m step =
      (g : ℕ) (below : List defined.Frame) (s : defined.State)
      → step g below s ≡ panic_step p.hidden g (panic_of panic) units (frame_of ts f) below (with_memory (memory_of ts m) s)

  -- a step from the first frame and memory to the second ones, which adds so many units to its one
  abbrev pub Goes : Result ℕ Stop → Frame → Frame → Memory → Memory → FrameStep → Type 0
  Goes (Ok units) f f' m m' step =
      (g : ℕ) (below : List defined.Frame) (s : defined.State)
      → step g (frame_of ts f) below (with_memory (memory_of ts m) s)
      ≡ Some (with_memory (memory_of ts m') (moved g (frame_of ts f' ∷ below) (1 + units) s))
  Goes (Err e) f f' m m' step = Halts e f' m' (λ g below s. step g (frame_of ts f) below (with_memory (memory_of ts m) s))
