-- What a step comes to that makes a frame, in any state with that memory.
use Rattle.std.specs.Prelude.{◌≡◌, ℕ, ◌+◌, List, [], ◌∷◌, ◌++◌, Option, Some, None, Result, Ok, Err}
use Rattle.go_type.specs.Tree.{Ty}
use Rattle.go_core.specs.CoreTree.{CoreProgram}
use Rattle.go_core.specs.Calls as calls
use Rattle.go_core.specs.Memory.{Value}
use Rattle.go_core.specs.Goroutine as defined
use Rattle.go_core.specs.Goroutine.{able, moved, with_memory}
use Rattle.go_values.specs.ValuesSeen.{memory_of}
use Rattle.go_values.specs.declared.values.memory.Memory.{Memory}
use Rattle.go_values.specs.declared.values.run_panic.RunPanic.TheVariants as held
use Rattle.go_values.specs.declared.operators.did.Stop.{Stop}
use Rattle.go_values.specs.declared.operators.did.Stop.TheVariants as stop
use Rattle.go_state.specs.StateSeen.{frame_of, stacked}
use Rattle.go_state.specs.declared.state.frame.Frame.{Frame}
use Rattle.go_entries.specs.EntriesSeen.{entered_of, resolved_of}
use Rattle.go_entries.specs.declared.entries.resolve.Resolved.{Resolved}
use Rattle.go_entries.specs.declared.entries.enter.Entered.{Entered}
use Rattle.go_state.specs.FrameStepsFound.{NoStep}
use Rattle.go_state.specs.Goes.{FrameStep, Halts}

-- the state with one more goroutine, which has this frame
abbrev pub with_started : defined.Frame → defined.State → defined.State
with_started f s = record s { goroutines = s.goroutines ++ record { frames = f ∷ []; waiting = able } ∷ [] }

module _ (p : CoreProgram) (ts : List Ty) where
  -- a step from the first frame and memory, after which a new frame stands above the second one
  abbrev pub Enters : Result Entered Stop → Frame → Frame → Memory → Memory → FrameStep → Type 0
  Enters (Ok e) f f' m m' step =
      (g : ℕ) (below : List defined.Frame) (s : defined.State)
      → step g (frame_of ts f) below (with_memory (memory_of ts m) s)
      ≡ Some (with_memory (memory_of ts m') (moved g (frame_of ts e.frame ∷ frame_of ts f' ∷ below) (1 + e.units) s))
  Enters (Err e) f f' m m' step = Halts p ts e f' m' (λ g below s. step g (frame_of ts f) below (with_memory (memory_of ts m) s))

  -- the same, where the new frame is that of a new goroutine
  abbrev pub Starts : Result Entered Stop → Frame → Frame → Memory → Memory → FrameStep → Type 0
  Starts (Ok e) f f' m m' step =
      (g : ℕ) (below : List defined.Frame) (s : defined.State)
      → step g (frame_of ts f) below (with_memory (memory_of ts m) s)
      ≡ Some (with_started (frame_of ts e.frame) (with_memory (memory_of ts m') (moved g (frame_of ts f' ∷ below) (1 + e.units) s)))
  Starts (Err e) f f' m m' step = Halts p ts e f' m' (λ g below s. step g (frame_of ts f) below (with_memory (memory_of ts m) s))

  -- a step that leaves a goroutine its frame and these below it
  abbrev pub StaysAbove : Result ℕ Stop → Frame → List Frame → (ℕ → defined.State → Option defined.State) → Type 0
  StaysAbove (Ok units) f frames step =
      (g : ℕ) (s : defined.State) → step g s ≡ Some (moved g (frame_of ts f ∷ stacked (frame_of ts) frames) (1 + units) s)
  StaysAbove (Err stop.NoMemory) f frames step = Unit {0}
  StaysAbove (Err stop.NoStep) f frames step = (g : ℕ) (s : defined.State) → step g s ≡ None
  StaysAbove (Err (stop.Panics panic units)) f frames step = ⊥

  -- what is called, found with operands that were taken from the frame
  abbrev pub CalleeTaken : Result Resolved Stop → Frame → defined.Called → ((List Value → defined.Frame → Option defined.State) → Option defined.State) → Type 0
  CalleeTaken (Ok r) f c goes_on =
      (k : calls.Resolved → defined.Frame → Option defined.State) → goes_on (λ vs x. k (calls.resolved p c x.places vs) x) ≡ k (resolved_of ts r) (frame_of ts f)
  CalleeTaken (Err e) f c goes_on = (k : List Value → defined.Frame → Option defined.State) → NoStep e (goes_on k)

  -- the frame of a call, or why there is none
  abbrev pub CallEnters : Result Entered Stop → Memory → Memory → calls.Resolved → Type 0
  CallEnters (Ok e) m m' (calls.ready func bases row vs) = calls.entered p func bases row vs defined.called (memory_of ts m) ≡ Some (entered_of ts e m')
  CallEnters (Ok e) m m' r = ⊥
  CallEnters (Err stop.NoMemory) m m' r = Unit {0}
  CallEnters (Err stop.NoStep) m m' (calls.ready func bases row vs) = calls.entered p func bases row vs defined.called (memory_of ts m) ≡ None
  CallEnters (Err stop.NoStep) m m' calls.unresolved = Unit {0}
  CallEnters (Err stop.NoStep) m m' r = ⊥
  CallEnters (Err (stop.Panics panic units)) m m' calls.nil_function = (panic ≡ held.NilUsed) × (units ≡ 0) × (memory_of ts m' ≡ memory_of ts m)
  CallEnters (Err (stop.Panics panic units)) m m' calls.nil_interface = (panic ≡ held.NilUsed) × (units ≡ 0) × (memory_of ts m' ≡ memory_of ts m)
  CallEnters (Err (stop.Panics panic units)) m m' r = ⊥
