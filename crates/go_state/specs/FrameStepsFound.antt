-- What is taken from a frame's values, and the frame that is left.
use Rattle.std.specs.Prelude.{◌≡◌, List, Bool, Option, None, Result, Ok, Err}
use Rattle.go_type.specs.Tree.{Ty}
use Rattle.go_core.specs.Memory.{Value}
use Rattle.go_core.specs.Goroutine as defined
use Rattle.go_core.specs.Control.{with_choice}
use Rattle.go_values.specs.ValuesSeen.{value_of}
use Rattle.go_values.specs.declared.operators.did.Stop.{Stop}
use Rattle.go_values.specs.declared.operators.did.Stop.TheVariants as stop
use Rattle.go_state.specs.StateSeen.{frame_of}
use Rattle.go_state.specs.declared.state.frame.Frame.{Frame}
use Rattle.go_state.specs.declared.frame_steps.operands.Pair.{Pair}

-- there is no step, unless memory is wanting
abbrev pub NoStep : Stop → Option defined.State → Type 0
NoStep stop.NoMemory o = Unit {0}
NoStep stop.NoStep o = o ≡ None
NoStep (stop.Panics panic units) o = ⊥

-- what was taken, with which a step goes on, and the frame then
abbrev pub Taken : {A B : Type 0} → List Ty → (A → B) → Result A Stop → Frame → ((B → defined.Frame → Option defined.State) → Option defined.State) → Type 0
Taken {A} {B} ts seen (Ok x) f goes_on = (k : B → defined.Frame → Option defined.State) → goes_on k ≡ k (seen x) (frame_of ts f)
Taken {A} {B} ts seen (Err e) f goes_on = (k : B → defined.Frame → Option defined.State) → NoStep e (goes_on k)

-- the same of two operands
abbrev pub PairTaken : List Ty → Result Pair Stop → Frame → ((Value → Value → defined.Frame → Option defined.State) → Option defined.State) → Type 0
PairTaken ts (Ok p) f goes_on =
    (k : Value → Value → defined.Frame → Option defined.State) → goes_on k ≡ k (value_of ts p.left.now) (value_of ts p.right.now) (frame_of ts f)
PairTaken ts (Err e) f goes_on = (k : Value → Value → defined.Frame → Option defined.State) → NoStep e (goes_on k)

-- a truth value that chooses, if it is one
abbrev pub Chooses : Result Bool Stop → Value → Type 0
Chooses (Ok b) x = (k : Bool → defined.Frame → Option defined.State) (f : defined.Frame) → with_choice k x f ≡ k b f
Chooses (Err e) x = (k : Bool → defined.Frame → Option defined.State) (f : defined.Frame) → NoStep e (with_choice k x f)
