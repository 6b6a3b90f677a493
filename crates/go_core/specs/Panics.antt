-- Go specification (as of Go 1.17), "Handling panics", "Defer statements", "Return statements": how frames end.
-- own: the report of a panic that nobody recovers from.
use Rattle.std.specs.Prelude.{ℕ, List, [], ◌∷◌, Option, Some, None, codes}
use Rattle.go_core.specs.Memory as cell
use Rattle.go_core.specs.Memory.{Scalar, Value, Memory, listed}
use Rattle.go_core.specs.CoreTree.{CoreProgram, MethodRow}
use Rattle.go_core.specs.RunPanic.{nil_used, panic_value}
use Rattle.go_core.specs.StepInterfaces.{error_row, plain_text}
use Rattle.go_core.specs.Goroutine.{Invocation, invoke, nothing_to_invoke, Mode, returning, panicking, Purpose, called, deferred, reporting, Frame, State, moved, with_memory, End, panicked}
use Rattle.go_core.specs.Frames.{to_panicking, on_operand, with_more}
use Rattle.go_core.specs.Calls.{Entered, entered, row_at, results_of}

abbrev pub report_failed : List ℕ
report_failed = codes "(panic in Error)"

module _ (p : CoreProgram) (g : ℕ) where
  -- "Run-time panics": the value of `panic`, as an interface value
  abbrev pub raised : List Frame → State → Value → Frame → Option State
  raised below s (x ∷ []) f = Some (moved g (to_panicking x f ∷ below) 2 s)
  raised below s _ f = None

  abbrev pub panic_with_step : Frame → List Frame → State → Option State
  panic_with_step f below s = on_operand f (raised below s)

  -- the frame right below is panicking, and then returns; else nil
  abbrev pub recovered_from : Mode → Frame → Frame → List Frame → State → Option State
  recovered_from (panicking v) f f' below s = Some (moved g (with_more ((v ∷ []) ∷ []) f ∷ record f' { mode = returning } ∷ below) 1 s)
  recovered_from _ f f' below s = Some (moved g (with_more ((cell.nil ∷ []) ∷ []) f ∷ f' ∷ below) 1 s)

  -- the value, in a deferred call of a frame right below that is panicking; else nil
  abbrev pub recovered : Purpose → Frame → List Frame → State → Option State
  recovered deferred f (f' ∷ below) s = recovered_from f'.mode f f' below s
  recovered _ f below s = Some (moved g (with_more ((cell.nil ∷ []) ∷ []) f ∷ below) 1 s)

  abbrev pub recover_step : Frame → List Frame → State → Option State
  recover_step f below s = recovered f.purpose f below s

  -- ---- deferred calls, the last one that was deferred first

  abbrev pub deferred_above : Option Entered → Frame → List Frame → State → Option State
  deferred_above None f below s = None
  deferred_above (Some e) f below s = Some (with_memory e.memory (moved g (e.frame ∷ f ∷ below) 1 s))

  -- a nil function panics when its turn comes
  abbrev pub deferred_step : Invocation → Frame → List Frame → State → Option State
  deferred_step (invoke func bases row vs) f below s = deferred_above (entered p func bases row vs deferred s.memory) f below s
  deferred_step nothing_to_invoke f below s = Some (moved g (to_panicking (panic_value p.hidden nil_used) f ∷ below) 1 s)

  -- ---- the end of a frame

  abbrev pub with_end : End → State → State
  with_end e s = record s { end = e }

  -- results go to the frame below
  abbrev pub given_below : List Value → List Frame → State → Option State
  given_below vs [] s = Some (moved g [] 1 s)
  given_below vs (f ∷ below) s = Some (moved g (with_more vs f ∷ below) 1 s)

  -- the answer of `Error` is told
  abbrev pub reported : List Value → State → Option State
  reported ((cell.text bytes ∷ []) ∷ []) s = Some (with_end (panicked bytes) (moved g [] 1 s))
  reported _ s = None

  abbrev pub ended_with : Purpose → Option (List Value) → List Frame → State → Option State
  ended_with purpose None below s = None
  ended_with called (Some vs) below s = given_below vs below s
  ended_with deferred (Some vs) below s = Some (moved g below 1 s)
  ended_with reporting (Some vs) below s = reported vs s

  abbrev pub report_with : Scalar → Option Entered → State → Option State
  report_with v None s = None
  report_with v (Some e) s = Some (with_memory e.memory (moved g (e.frame ∷ []) 1 s))

  abbrev pub content_of : Scalar → List Value
  content_of (cell.interface t xs) = listed xs ∷ []
  content_of _ = []

  abbrev pub report_by : Option MethodRow → ℕ → Scalar → State → Option State
  report_by None row v s = None
  report_by (Some r) row v s = report_with v (entered p r.func [] (Some row) (content_of v) reporting s.memory) s

  -- no frame is left: the value's method `Error` is asked, where it has one
  abbrev pub report_begun : Scalar → Option ℕ → State → Option State
  report_begun v None s = Some (with_end (panicked (plain_text p.names v)) (moved g [] 1 s))
  report_begun v (Some row) s = report_by (row_at p (Some row)) row v s

  -- the frame below panics with the same value, whatever it did
  abbrev pub removed_panicking : Purpose → Scalar → List Frame → State → Option State
  removed_panicking reporting v below s = Some (with_end (panicked report_failed) (moved g [] 1 s))
  removed_panicking purpose v (f ∷ below) s = Some (moved g (to_panicking v f ∷ below) 1 s)
  removed_panicking purpose v [] s = report_begun v (error_row p v) s

  abbrev pub end_by_mode : Mode → Frame → List Frame → State → Option State
  end_by_mode (panicking v) f below s = removed_panicking f.purpose v below s
  end_by_mode mode f below s = ended_with f.purpose (results_of p g f.results f.places s.memory) below s

  abbrev pub is_returning : Mode → Mode
  is_returning (panicking v) = panicking v
  is_returning mode = returning

  -- nothing is left of the body: deferred calls are run first
  abbrev pub ended_step : List Invocation → Frame → List Frame → State → Option State
  ended_step [] f below s = end_by_mode f.mode f below s
  ended_step (i ∷ is) f below s = deferred_step i (record f { deferred_calls = is; mode = is_returning f.mode }) below s
