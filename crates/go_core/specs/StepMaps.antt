-- Go specification (as of Go 1.17), "Map types", "Index expressions", "Deletion of map elements": maps are
-- finite maps whose entries have a birth.
use Rattle.std.specs.Prelude.{ℕ, suc, ◌+◌, ◌*◌, List, [], ◌∷◌, ◌++◌, Bool, true, false, if◌then◌else◌, nat_le, length, Option, Some, None, slice_get, option_and_then}
use Rattle.go_type.specs.Tree.{Ty, mapping}
use Rattle.go_type.specs.Named.{NamedTy}
use Rattle.go_core.specs.Layout.{Shape, shape_of, weight}
use Rattle.go_core.specs.Memory as cell
use Rattle.go_core.specs.Memory.{Scalar, nil, truth, Value, Memory, Entry, MapState, zeros, set_map, with_map}
use Rattle.go_core.specs.RunPanic.{nil_map_entry, bad_size}
use Rattle.go_core.specs.Equality.{same_key}
use Rattle.go_core.specs.Did.{Did, gives, panics, no_step}
use Rattle.go_core.specs.StepNumbers.{most_elements}

module _ (ns : List NamedTy) (key_type : Ty) where
  -- the value at a key
  abbrev pub looked_up : Value → List Entry → Option Value
  looked_up key [] = None
  looked_up key (e ∷ es) = if same_key ns key_type e.key key then Some e.value else looked_up key es

  -- an entry that is there keeps its key and its birth
  abbrev pub replaced : Value → Value → List Entry → List Entry
  replaced key value [] = []
  replaced key value (e ∷ es) =
      if same_key ns key_type e.key key then record e { value = value } ∷ es else e ∷ replaced key value es

  abbrev pub without : Value → List Entry → List Entry
  without key [] = []
  without key (e ∷ es) = if same_key ns key_type e.key key then es else e ∷ without key es

  -- a new key gets the next birth
  abbrev pub with_new : Value → Value → MapState → MapState
  with_new key value s =
      record { entries = s.entries ++ record { key = key; value = value; birth = s.next_birth } ∷ []; next_birth = suc s.next_birth }

  abbrev pub put_entry : Value → Value → MapState → Option Value → Option MapState
  put_entry key value s (Some old) = Some (record s { entries = replaced key value s.entries })
  put_entry key value s None = if nat_le most_elements (length s.entries) then None else Some (with_new key value s)

  -- the map with this entry; none where a new key passes the limit
  abbrev pub with_entry : Value → Value → MapState → Option MapState
  with_entry key value s = put_entry key value s (looked_up key s.entries)

abbrev pub found_value : Shape → Option Value → Value
found_value s None = zeros s
found_value s (Some v) = v

abbrev pub is_found : Option Value → Bool
is_found None = false
is_found (Some v) = true

abbrev pub with_ok : Bool → Value → Bool → List Value
with_ok true v ok = v ∷ (truth ok ∷ []) ∷ []
with_ok false v ok = v ∷ []

abbrev pub entries_in : Option MapState → List Entry
entries_in None = []
entries_in (Some s) = s.entries

-- nil has no entry
abbrev pub entries_at : Value → Memory → List Entry
entries_at (cell.map name ∷ []) m = entries_in (slice_get m.maps name)
entries_at _ m = []

abbrev pub map_get_step : List NamedTy → Ty → Bool → Value → Value → Memory → Did
map_get_step ns (mapping k v) ok x key m =
    let found = looked_up ns k key (entries_at x m) in
    gives (with_ok ok (found_value (shape_of ns v) found) (is_found found)) m (weight (shape_of ns k) + weight (shape_of ns v))
map_get_step ns _ ok x key m = no_step

abbrev pub set_or_not : Memory → ℕ → ℕ → Option MapState → Did
set_or_not m name units None = panics bad_size 0
set_or_not m name units (Some s) = gives [] (set_map m name s) units

abbrev pub entry_set : List NamedTy → Ty → Ty → Value → Value → ℕ → Option MapState → Memory → Did
entry_set ns k v key value name None m = no_step
entry_set ns k v key value name (Some s) m = set_or_not m name (weight (shape_of ns k) + weight (shape_of ns v)) (with_entry ns k key value s)

abbrev pub entry_deleted : List NamedTy → Ty → Ty → Value → ℕ → Option MapState → Memory → Did
entry_deleted ns k v key name None m = no_step
entry_deleted ns k v key name (Some s) m =
    gives [] (set_map m name (record s { entries = without ns k key s.entries })) (weight (shape_of ns k) + weight (shape_of ns v))

-- "Index expressions": storing in a nil map panics
abbrev pub map_set_step : List NamedTy → Ty → Value → Value → Value → Memory → Did
map_set_step ns (mapping k v) (cell.map name ∷ []) key value m = entry_set ns k v key value name (slice_get m.maps name) m
map_set_step ns (mapping k v) (nil ∷ []) key value m = panics nil_map_entry 0
map_set_step ns _ x key value m = no_step

-- "Deletion of map elements": what is not there, and nil, is no fault
abbrev pub map_delete_step : List NamedTy → Ty → Value → Value → Memory → Did
map_delete_step ns (mapping k v) (cell.map name ∷ []) key m = entry_deleted ns k v key name (slice_get m.maps name) m
map_delete_step ns (mapping k v) (nil ∷ []) key m = gives [] m (weight (shape_of ns k) + weight (shape_of ns v))
map_delete_step ns _ x key m = no_step

-- "Composite literals": pairs are stored in the order of the text
abbrev pub with_pairs : List NamedTy → Ty → List Value → MapState → Option MapState
with_pairs ns k (key ∷ value ∷ vs) s = option_and_then (with_pairs ns k vs) (with_entry ns k key value s)
with_pairs ns k _ s = Some s

abbrev pub new_map_or_not : Memory → ℕ → Option MapState → Did
new_map_or_not m units None = panics bad_size 0
new_map_or_not m units (Some s) = gives ((cell.map (length m.maps) ∷ []) ∷ []) (with_map m s) units

abbrev pub build_map_step : List NamedTy → Ty → List Value → Memory → Did
build_map_step ns (mapping k v) vs m =
    new_map_or_not m (1 + length vs * (weight (shape_of ns k) + weight (shape_of ns v))) (with_pairs ns k vs (record { entries = []; next_birth = 0 }))
build_map_step ns _ vs m = no_step
