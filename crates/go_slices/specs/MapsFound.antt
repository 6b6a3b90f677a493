-- What the parts of a step find, for private clauses.
use Rattle.std.specs.Prelude.{◌≡◌, ℕ, List, [], ◌∷◌, Bool, true, false, Result, Ok, Err, Option, Some, None, slice_get, slice_set, remove, length}
use Rattle.go_type.specs.Tree.{Ty}
use Rattle.go_type.specs.Named.{NamedTy}
use Rattle.go_core.specs.Memory as core
use Rattle.go_core.specs.Memory.{Value, Entry, MapState}
use Rattle.go_core.specs.Did.{gives}
use Rattle.go_core.specs.StepMaps.{looked_up, replaced, without, set_or_not, new_map_or_not}
use Rattle.go_values.specs.OperatorsSeen.{Stops, changed}
use Rattle.go_values.specs.declared.operators.did.Change.{Change}
use Rattle.go_values.specs.declared.operators.did.Stop.{Stop}

-- a key has no entry
pub record IsAbsent (ns : List NamedTy) (key_type : Ty) (key : Value) (entries : List Entry) : Type 0 where
  pub looked : looked_up ns key_type key entries ≡ None
  pub kept : without ns key_type key entries ≡ entries

-- the entry at this place is the first that a key has
pub record IsFirst (ns : List NamedTy) (key_type : Ty) (key : Value) (entries : List Entry) (i : ℕ) : Type 0 where
  pub entry : Entry
  pub there : slice_get entries i ≡ Some entry
  pub looked : looked_up ns key_type key entries ≡ Some entry.value
  pub set : (value : Value) → replaced ns key_type key value entries ≡ slice_set entries i (record entry { value = value })
  pub taken : without ns key_type key entries ≡ remove entries i

abbrev pub IsPlace : List NamedTy → Ty → Value → List Entry → Option ℕ → Type 0
IsPlace ns key_type key entries None = IsAbsent ns key_type key entries
IsPlace ns key_type key entries (Some i) = IsFirst ns key_type key entries i

-- the map with an entry, and none where that passes the limit
abbrev pub Entered : {E : Type 0} → Result Bool E → MapState → Option MapState → Type 0
Entered (Ok true) new s = s ≡ Some new
Entered (Ok false) new s = s ≡ None
Entered (Err e) new s = Unit {0}

-- the change that sets a map, and the panic where there is none
abbrev pub ChangeFound : List Ty → ℕ → Result Change Stop → Option MapState → Type 0
ChangeFound ts name (Ok x) s = (m : core.Memory) (units : ℕ) → set_or_not m name units s ≡ gives [] (changed ts m x) units
ChangeFound ts name (Err e) s = (m : core.Memory) (units : ℕ) → Stops e (set_or_not m name units s)

-- the change that adds a map, and the panic where there is none
abbrev pub NewMapFound : List Ty → Result Change Stop → Option MapState → Type 0
NewMapFound ts (Ok x) s = (m : core.Memory) (units : ℕ) → new_map_or_not m units s ≡ gives ((core.map (length m.maps) ∷ []) ∷ []) (changed ts m x) units
NewMapFound ts (Err e) s = (m : core.Memory) (units : ℕ) → Stops e (new_map_or_not m units s)
