-- What a step leaves of a state besides frames and memory.
use Rattle.std.specs.Prelude.{◌≡◌, ℕ, List, slice_get}
use Rattle.go_type.specs.Tree.{Ty}
use Rattle.go_core.specs.Goroutine.{moved}
use Rattle.go_core.specs.Communicate.{frames_of}
use Rattle.go_state.specs.StateSeen.{state_of}
use Rattle.go_state.specs.declared.state.state.State.{State}

-- the goroutine is able, with the frames that it has, after so many units
abbrev pub HasMoved : List Ty → ℕ → ℕ → State → State → Type 0
HasMoved ts g units old new = state_of ts new ≡ moved g (frames_of (slice_get (state_of ts old).goroutines g)) units (state_of ts old)
