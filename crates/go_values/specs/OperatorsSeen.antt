-- What steps of the definitions those of the program stand for.
use Rattle.std.specs.Prelude.{◌≡◌, List, [], ◌∷◌, false, map, Result, Ok, Err}
use Rattle.go_type.specs.Tree.{Ty}
use Rattle.go_core.specs.Memory as core
use Rattle.go_core.specs.Memory.{Value, with_written, with_fresh, with_map, with_channel, set_map}
use Rattle.go_core.specs.Did as defined
use Rattle.go_core.specs.Did.{gives, panics, no_step}
use Rattle.go_values.specs.ValuesSeen.{value_of, entry_of, panic_of}
use Rattle.go_values.specs.declared.operators.did.Change.{Change}
use Rattle.go_values.specs.declared.operators.did.Change.TheVariants as change
use Rattle.go_values.specs.declared.operators.did.Gives.{Gives}
use Rattle.go_values.specs.declared.operators.did.Stop.{Stop}
use Rattle.go_values.specs.declared.operators.did.Stop.TheVariants as stop
use Rattle.go_values.specs.declared.operators.did.Values.{Values}
use Rattle.go_values.specs.declared.operators.did.Values.TheVariants as values

-- with the trees of the table's types
module _ (ts : List Ty) where
  abbrev pub values_of : Values → List Value
  values_of values.Nothing = []
  values_of (values.One v) = value_of ts v.now ∷ []
  values_of (values.Two v w) = value_of ts v.now ∷ value_of ts w.now ∷ []

  -- the memory after a step
  abbrev pub changed : core.Memory → Change → core.Memory
  changed m change.Same = m
  changed m (change.Writes base xs) = with_written m base (value_of ts xs.now)
  changed m (change.Adds xs) = with_fresh m (value_of ts xs.now)
  changed m (change.WritesAndAdds base xs ys) = with_fresh (with_written m base (value_of ts xs.now)) (value_of ts ys.now)
  changed m (change.AddsMap es birth) = with_map m (record { entries = map (entry_of ts) es.now; next_birth = birth })
  changed m (change.SetsMap name es birth) = set_map m name (record { entries = map (entry_of ts) es.now; next_birth = birth })
  changed m (change.AddsChannel capacity) = with_channel m (record { capacity = capacity; values = []; closed = false })

  abbrev pub given : core.Memory → Gives → defined.Did
  given m g = gives (values_of g.values) (changed m g.change) g.units

-- why a step gives no values
abbrev pub Stops : Stop → defined.Did → Type 0
Stops stop.NoMemory d = Unit {0}
Stops stop.NoStep d = d ≡ no_step
Stops (stop.Panics panic units) d = d ≡ panics (panic_of panic) units

-- what a step answers, from this memory
abbrev pub Does : List Ty → core.Memory → Result Gives Stop → defined.Did → Type 0
Does ts m (Ok g) d = d ≡ given ts m g
Does ts m (Err e) d = Stops e d

-- an operand that the rest of a step goes on with
abbrev pub Found : {A B : Type 0} → (A → B) → Result A Stop → ((B → defined.Did) → defined.Did) → Type 0
Found {A} {B} seen (Ok x) goes_on = (f : B → defined.Did) → goes_on f ≡ f (seen x)
Found {A} {B} seen (Err e) goes_on = (f : B → defined.Did) → Stops e (goes_on f)
