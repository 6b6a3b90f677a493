-- What becomes of a partner that waits. These words are for private clauses.
use Rattle.std.specs.Prelude.{◌≡◌, ℕ, List, ◌∷◌, Option, Some, None, Result, Ok, Err, true, ◌+◌, slice_set}
use Rattle.std.specs.Borrow.{Bor}
use Rattle.go_type.specs.Tree.{Ty}
use Rattle.go_core.specs.Communicate.{resumed_at, done_with, received}
use Rattle.go_core.specs.Goroutine as defined
use Rattle.go_core.specs.Goroutine.{moved}
use Rattle.go_core.specs.Memory.{Value}
use Rattle.go_values.specs.ValuesSeen.{value_of}
use Rattle.go_values.specs.declared.values.scalar.Scalar.{Scalar}
use Rattle.go_values.specs.declared.operators.did.Stop.{Stop}
use Rattle.go_values.specs.declared.operators.did.Stop.TheVariants as stop
use Rattle.go_state.specs.StateSeen.{goroutine_of, state_of}
use Rattle.go_state.specs.declared.state.state.Goroutine.{Goroutine}
use Rattle.go_state.specs.declared.state.state.State.{State}
use Rattle.go_partners.specs.Moves.{with_frames}

module _ (ts : List Ty) where
  -- a goroutine goes on with these values and tasks, if it has a frame
  abbrev pub Wakes : Result Unit Stop → Goroutine → Goroutine → List Value → List defined.Task → Type 0
  Wakes (Ok x) old new vs after =
      (g : ℕ) (s : defined.State)
      → resumed_at vs after g (goroutine_of ts old).frames s
      ≡ Some (record s { goroutines = slice_set s.goroutines g (goroutine_of ts new) })
  Wakes (Err stop.NoMemory) old new vs after = Unit {0}
  Wakes (Err stop.NoStep) old new vs after = (g : ℕ) (s : defined.State) → resumed_at vs after g (goroutine_of ts old).frames s ≡ None
  Wakes (Err (stop.Panics panic units)) old new vs after = ⊥

  -- another goroutine goes on, or there is no step
  abbrev pub GoesOn : Result Unit Stop → State → Option defined.State → Type 0
  GoesOn (Ok x) s o = o ≡ Some (state_of ts s)
  GoesOn (Err stop.NoMemory) s o = Unit {0}
  GoesOn (Err stop.NoStep) s o = o ≡ None
  GoesOn (Err (stop.Panics panic units)) s o = ⊥

  -- the same beside a goroutine that has moved to any frames, after any units
  abbrev pub GoesOnBeside : ℕ → Result Unit Stop → State → State → (defined.State → defined.State → Option defined.State) → Type 0
  GoesOnBeside g (Ok x) s s' step =
      (fs gs : List defined.Frame) (units : ℕ)
      → step (with_frames g fs (state_of ts s)) (moved g gs units (with_frames g fs (state_of ts s)))
      ≡ Some (moved g gs units (state_of ts s'))
  GoesOnBeside g (Err stop.NoMemory) s s' step = Unit {0}
  GoesOnBeside g (Err stop.NoStep) s s' step =
      (fs gs : List defined.Frame) (units : ℕ) → step (with_frames g fs (state_of ts s)) (moved g gs units (with_frames g fs (state_of ts s))) ≡ None
  GoesOnBeside g (Err (stop.Panics panic units)) s s' step = ⊥

  -- a receive takes what the partner sends, and the partner goes on
  abbrev pub Receives : ℕ → Result (Bor (List Scalar)) Stop → State → State → (ℕ → List defined.Task → defined.Frame → List defined.Frame → ℕ → defined.State → Option defined.State) → Type 0
  Receives g (Ok x) s s' step =
      (fs : List defined.Frame) (n : ℕ) (after : List defined.Task) (f : defined.Frame) (below : List defined.Frame) (u : ℕ)
      → step n after f below u (with_frames g fs (state_of ts s))
      ≡ Some (moved g (done_with (received n (value_of ts x.now) true) after f ∷ below) (1 + u) (state_of ts s'))
  Receives g (Err stop.NoMemory) s s' step = Unit {0}
  Receives g (Err stop.NoStep) s s' step =
      (fs : List defined.Frame) (n : ℕ) (after : List defined.Task) (f : defined.Frame) (below : List defined.Frame) (u : ℕ)
      → step n after f below u (with_frames g fs (state_of ts s)) ≡ None
  Receives g (Err (stop.Panics panic units)) s s' step = ⊥
