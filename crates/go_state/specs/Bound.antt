-- Variables that are bound, written and read, as the definitions have them.
use Rattle.std.specs.Prelude.{◌≡◌, ℕ, List, Option, Some, None, Result, Ok, Err}
use Rattle.std.specs.Borrow.{Bor}
use Rattle.std.specs.Global.{Vec}
use Rattle.go_type.specs.Tree.{Ty}
use Rattle.go_core.specs.Calls.{Bindings}
use Rattle.go_core.specs.Memory as core
use Rattle.go_core.specs.Memory.{Value}
use Rattle.go_values.specs.ValuesSeen.{values_of, memory_of}
use Rattle.go_values.specs.declared.values.memory.Memory.{Memory}
use Rattle.go_values.specs.declared.values.scalar.Scalar.{Scalar}
use Rattle.go_values.specs.declared.operators.did.Stop.{Stop}
use Rattle.go_values.specs.declared.operators.did.Stop.TheVariants as stop
use Rattle.go_state.specs.StateSeen.{places_of}
use Rattle.go_state.specs.declared.state.frame.Place.{Place}

-- with the trees of the table's types
module _ (ts : List Ty) where
  -- the variables of a frame, the memory that holds them, and so many units
  abbrev pub bindings_of : List Place → Memory → ℕ → Bindings
  bindings_of at m units = record { places = places_of at; memory = memory_of ts m; units = units }

  -- variables are bound, or there is no step
  abbrev pub Binds : Result ℕ Stop → List Place → Memory → Option Bindings → Type 0
  Binds (Ok units) at m o = o ≡ Some (bindings_of at m units)
  Binds (Err stop.NoMemory) at m o = Unit {0}
  Binds (Err stop.NoStep) at m o = o ≡ None
  Binds (Err (stop.Panics panic units)) at m o = ⊥

  -- the memory is the one that was found, or there is no step
  abbrev pub Written : Result (Unit {0}) Stop → Memory → Option core.Memory → Type 0
  Written (Ok x) m o = o ≡ Some (memory_of ts m)
  Written (Err stop.NoMemory) m o = Unit {0}
  Written (Err stop.NoStep) m o = o ≡ None
  Written (Err (stop.Panics panic units)) m o = ⊥

  -- values are found, or there is no step
  abbrev pub AreValues : Result (Vec (Bor (List Scalar))) Stop → Option (List Value) → Type 0
  AreValues (Ok xs) o = o ≡ Some (values_of ts xs.items)
  AreValues (Err stop.NoMemory) o = Unit {0}
  AreValues (Err stop.NoStep) o = o ≡ None
  AreValues (Err (stop.Panics panic units)) o = ⊥
