-- What a step comes to that ends a frame, in any state with that memory.
use Rattle.std.specs.Prelude.{◌≡◌, ℕ, List, Option, Some, None, Result, Ok, Err}
use Rattle.go_type.specs.Tree.{Ty}
use Rattle.go_core.specs.Goroutine as defined
use Rattle.go_core.specs.Goroutine.{moved, with_memory}
use Rattle.go_values.specs.ValuesSeen.{memory_of}
use Rattle.go_values.specs.declared.values.memory.Memory.{Memory}
use Rattle.go_values.specs.declared.operators.did.Stop.{Stop}
use Rattle.go_values.specs.declared.operators.did.Stop.TheVariants as stop
use Rattle.go_state.specs.StateSeen.{end_of, frame_of, stacked}
use Rattle.go_state.specs.declared.state.frame.Frame.{Frame}
use Rattle.go_state.specs.declared.state.state.End.{End}

-- the end that is told, if any
abbrev pub ended_as : Option End → defined.State → defined.State
ended_as None s = s
ended_as (Some e) s = record s { end = end_of e }

-- a step of one unit that leaves a goroutine these frames, and tells an end, if any
abbrev pub Leaves : List Ty → Result (Option End) Stop → List Frame → Memory → (ℕ → defined.State → Option defined.State) → Type 0
Leaves ts (Ok e) frames m step =
    (g : ℕ) (s : defined.State) → step g s ≡ Some (ended_as e (with_memory (memory_of ts m) (moved g (stacked (frame_of ts) frames) 1 s)))
Leaves ts (Err stop.NoMemory) frames m step = Unit {0}
Leaves ts (Err stop.NoStep) frames m step = (g : ℕ) (s : defined.State) → step g s ≡ None
Leaves ts (Err (stop.Panics panic units)) frames m step = ⊥
