-- The place of a left side that is found, for private clauses.
use Rattle.std.specs.Prelude.{◌≡◌, ℕ, List, Result, Ok, Err}
use Rattle.go_type.specs.Tree.{Ty}
use Rattle.go_core.specs.Memory.{Value}
use Rattle.go_core.specs.Assign as assigning
use Rattle.go_values.specs.ValuesSeen.{values_of, panic_of}
use Rattle.go_values.specs.declared.operators.did.Stop.{Stop}
use Rattle.go_values.specs.declared.operators.did.Stop.TheVariants as stop
use Rattle.go_entries.specs.declared.assign_steps.find.Found.{Found}

-- why a left side has no place
abbrev pub Misses : Stop → assigning.Found → Type 0
Misses stop.NoMemory d = Unit {0}
Misses stop.NoStep d = d ≡ assigning.lost
Misses (stop.Panics panic units) d = d ≡ assigning.fails (panic_of panic)

-- the base of a place that a step has given, before these operands
abbrev pub BaseFound : Result ℕ Stop → List Value → assigning.Found → Type 0
BaseFound (Ok base) others d = d ≡ assigning.found base others
BaseFound (Err e) others d = Misses e d

-- the place of a left side, and the operands after its own
abbrev pub PlaceFound : List Ty → Result Found Stop → assigning.Found → Type 0
PlaceFound ts (Ok x) d = d ≡ assigning.found x.base (values_of ts x.others.now)
PlaceFound ts (Err e) d = Misses e d

-- the same, where a panic counts so many units
abbrev pub MissesBy : ℕ → Stop → assigning.Found → Type 0
MissesBy nodes stop.NoMemory d = Unit {0}
MissesBy nodes stop.NoStep d = d ≡ assigning.lost
MissesBy nodes (stop.Panics panic units) d = (d ≡ assigning.fails (panic_of panic)) × (units ≡ nodes)

abbrev pub PlacedBy : List Ty → ℕ → Result Found Stop → assigning.Found → Type 0
PlacedBy ts nodes (Ok x) d = d ≡ assigning.found x.base (values_of ts x.others.now)
PlacedBy ts nodes (Err e) d = MissesBy nodes e d
