-- What is found of a range, as the definitions have it.
use Rattle.std.specs.Prelude.{◌≡◌, ℕ, List, Option, Some, None, Result, Ok, Err}
use Rattle.go_type.specs.Tree.{Ty}
use Rattle.go_core.specs.Control as control
use Rattle.go_core.specs.CoreTree.{CoreProgram}
use Rattle.go_core.specs.Goroutine as defined
use Rattle.go_values.specs.ValuesSeen.{value_of}
use Rattle.go_values.specs.declared.operators.did.Stop.{Stop}
use Rattle.go_values.specs.declared.operators.did.Stop.TheVariants as stop
use Rattle.go_state.specs.StateSeen.{cursor_of}
use Rattle.go_state.specs.declared.state.frame.Cursor.{Cursor}
use Rattle.go_state.specs.declared.ranges.next.Next.{Next}

-- there is no step, unless memory is wanting
abbrev pub Lacks : {A : Type 0} → Stop → A → A → Type 0
Lacks {A} stop.NoMemory d none = Unit {0}
Lacks {A} stop.NoStep d none = d ≡ none
Lacks {A} (stop.Panics panic units) d none = ⊥

-- how far a range has come, and none where there is no step
abbrev pub CursorFound : List Ty → Result Cursor Stop → Option defined.Cursor → Type 0
CursorFound ts (Ok c) o = o ≡ Some (cursor_of ts c)
CursorFound ts (Err e) o = Lacks e o None

-- the next key and value of a range, and none where it is over
abbrev pub NextFound : (p : CoreProgram) (g : ℕ) → List Ty → Result (Option Next) Stop → control.Next p g → Type 0
NextFound p g ts (Ok (Some n)) d = d ≡ control.next (value_of ts n.key.now) (value_of ts n.value.now) (cursor_of ts n.cursor)
NextFound p g ts (Ok None) d = d ≡ control.over
NextFound p g ts (Err e) d = Lacks e d control.not_so
