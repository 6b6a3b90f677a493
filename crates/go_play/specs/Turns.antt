-- What a turn of a goroutine comes to.
use Rattle.std.specs.Prelude.{◌≡◌, List, Bool, true, false, Option, Some, None}
use Rattle.go_type.specs.Tree.{Ty}
use Rattle.go_core.specs.Goroutine as defined
use Rattle.go_core.specs.Goroutine.{able}
use Rattle.go_state.specs.StateSeen.{state_of}
use Rattle.go_state.specs.declared.state.state.State.{State}

-- a move is made, or it can't be made
abbrev pub Steps : List Ty → Bool → State → Option defined.State → Type 0
Steps ts true s o = o ≡ Some (state_of ts s)
Steps ts false s o = o ≡ None

-- it waits for nothing. This word is for a private clause
abbrev pub IsAble : Bool → defined.Waiting → Type 0
IsAble true w = w ≡ able
IsAble false w = w ≡ able → ⊥
