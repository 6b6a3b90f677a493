-- The default, and the way that is chosen. These words are for private clauses, but for `default_of`.
use Rattle.std.specs.Prelude.{◌≡◌, ℕ, List, Option, Some, None}
use Rattle.std.specs.Borrow.{Bor}
use Rattle.go_type.specs.Tree.{Ty}
use Rattle.go_core.specs.CoreTree.{CoreProgram}
use Rattle.go_core.specs.CoreView.{stmts_view}
use Rattle.go_core.specs.declared.statement.CoreStmts.{CoreStmts}
use Rattle.go_core.specs.Communicate.{reached, way_taken}
use Rattle.go_core.specs.Goroutine as defined
use Rattle.go_core.specs.Opened.{all_opened}
use Rattle.go_state.specs.StateSeen.{state_of}
use Rattle.go_state.specs.declared.state.state.State.{State}
use Rattle.go_partners.specs.Moves.{with_frames}

-- what is done where nothing is ready
abbrev pub default_of : List Ty → Option (Bor CoreStmts) → Option (List defined.Task → List defined.Task)
default_of ts None = None
default_of ts (Some body) = Some (all_opened (stmts_view ts body.now))

-- this way is taken of those that are ready, from the state as it is then
abbrev pub IsChosen : ℕ → List ℕ → List ℕ → ℕ → State → State → Type 0
IsChosen way ready choices u s s' =
    (ts : List Ty) (p : CoreProgram) (g : ℕ) (move : defined.Move) (d : Option (List defined.Task → List defined.Task)) (offers : List defined.Offer)
    (f : defined.Frame) (fs below : List defined.Frame)
    → reached p g move choices d u offers ready f below (with_frames g fs (state_of ts s)) ≡ way_taken p g move way offers f below (with_frames g fs (state_of ts s'))
