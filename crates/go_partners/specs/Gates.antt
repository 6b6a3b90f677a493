-- The place of a gate. This word is for private clauses.
use Rattle.std.specs.Prelude.{◌≡◌, ℕ, Option, Result, Ok, Err}
use Rattle.go_core.specs.Goroutine.{Frame, State}
use Rattle.go_values.specs.declared.operators.did.Stop.{Stop}
use Rattle.go_state.specs.FrameStepsFound.{NoStep}

-- a step goes on with the place, and with this frame
abbrev pub IsGate : Result ℕ Stop → Frame → ((ℕ → Frame → Option State) → Option State) → Type 0
IsGate (Ok base) f goes_on = (k : ℕ → Frame → Option State) → goes_on k ≡ k base f
IsGate (Err e) f goes_on = (k : ℕ → Frame → Option State) → NoStep e (goes_on k)
