-- Which calls, receivers and new frames of the definitions those of the program stand for.
use Rattle.std.specs.Prelude.{◌≡◌, List, [], ◌∷◌, Option, Some, None, Result, Ok, Err}
use Rattle.go_type.specs.Tree.{Ty}
use Rattle.go_core.specs.Calls as calls
use Rattle.go_core.specs.CoreView.{method_of, var_of}
use Rattle.go_core.specs.Goroutine as defined
use Rattle.go_values.specs.ValuesSeen.{value_of, values_of, memory_of}
use Rattle.go_values.specs.declared.values.memory.Memory.{Memory}
use Rattle.go_values.specs.declared.operators.did.Stop.{Stop}
use Rattle.go_values.specs.declared.operators.did.Stop.TheVariants as stop
use Rattle.go_state.specs.StateSeen.{frame_of}
use Rattle.go_entries.specs.declared.entries.enter.Entered.{Entered}
use Rattle.go_entries.specs.declared.entries.receiver.Adapted.{Adapted}
use Rattle.go_entries.specs.declared.entries.receiver.First.{First}
use Rattle.go_entries.specs.declared.entries.receiver.Receiver.{Receiver}
use Rattle.go_entries.specs.declared.entries.receiver.Receiver.TheVariants as receiver
use Rattle.go_entries.specs.declared.entries.resolve.Called.{Called}
use Rattle.go_entries.specs.declared.entries.resolve.Called.TheVariants as called
use Rattle.go_entries.specs.declared.entries.resolve.Resolved.{Resolved}
use Rattle.go_entries.specs.declared.entries.resolve.Resolved.TheVariants as resolved

-- with the trees of the table's types
module _ (ts : List Ty) where
  abbrev pub called_of : Called → defined.Called
  called_of (called.Function f) = defined.the_function f.0
  called_of (called.Method n) = defined.the_method (method_of ts n.now)
  called_of called.Value = defined.the_value
  called_of (called.Dynamic name package_) = defined.the_dynamic name.now package_.now

  abbrev pub receiver_of : Receiver → calls.Receiver
  receiver_of receiver.AsItIs = calls.as_it_is
  receiver_of (receiver.Through v) = calls.through (var_of ts v)
  receiver_of receiver.ToACopy = calls.to_a_copy

  -- what a frame does first that reads its receiver through a pointer
  abbrev pub first_of : Option First → List defined.Task
  first_of None = []
  first_of (Some r) = defined.push_value (value_of ts r.pointer.now) ∷ defined.receive_through (var_of ts r.var) ∷ []

  abbrev pub adapted_of : Adapted → Memory → calls.Adapted
  adapted_of a m = record { operands = values_of ts a.operands.items; first = first_of a.first; memory = memory_of ts m }

  abbrev pub resolved_of : Resolved → calls.Resolved
  resolved_of (resolved.Ready r) = calls.ready r.func r.bases.now r.row (values_of ts r.operands.now)
  resolved_of resolved.NilFunction = calls.nil_function
  resolved_of resolved.NilInterface = calls.nil_interface
  resolved_of resolved.Unresolved = calls.unresolved

  abbrev pub entered_of : Entered → Memory → calls.Entered
  entered_of e m = record { frame = frame_of ts e.frame; memory = memory_of ts m; units = e.units }

  -- a frame is made, or there is no step
  abbrev pub IsEntered : Result Entered Stop → Memory → Option calls.Entered → Type 0
  IsEntered (Ok e) m o = o ≡ Some (entered_of e m)
  IsEntered (Err stop.NoMemory) m o = Unit {0}
  IsEntered (Err stop.NoStep) m o = o ≡ None
  IsEntered (Err (stop.Panics panic units)) m o = ⊥
