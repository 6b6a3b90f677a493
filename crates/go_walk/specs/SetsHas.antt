-- Own: what a set answers, and which number a name has.
use Rattle.std.specs.Prelude.{ℕ, List, Bool, Option, Some, None, ◌==◌, ◌&&◌, bytes_eq, if◌then◌else◌}
use Rattle.std.specs.List.{list_any}
use Rattle.std.specs.Map.{lookup}
use Rattle.gj_base.specs.declared.place.Place.{Place}
use Rattle.go_walk.specs.declared.sets.names.NameSet.{NameSet}
use Rattle.go_walk.specs.declared.sets.numbers.NameMap.{NameMap}
use Rattle.go_walk.specs.declared.sets.spots.PlaceSet.{PlaceSet}

-- whether a set has a name
abbrev pub has_name : List ℕ → NameSet → Bool
has_name x s = list_any (λ k. bytes_eq x k.now) s.names.keys

-- the number of a name
abbrev pub number_of : List ℕ → NameMap → Option ℕ
number_of x m = lookup (λ k. bytes_eq x k.now) m.numbers.entries

-- with a number for x, unless it has one: the number of y
abbrev pub with_number : List ℕ → ℕ → Option ℕ → List ℕ → Option ℕ
with_number x n (Some old) y = Some old
with_number x n None y = if bytes_eq y x then Some n else None

abbrev pub same_place : Place → Place → Bool
same_place p q = (p.file == q.file) && (p.offset == q.offset)

-- whether a set has a place
abbrev pub has_place : Place → PlaceSet → Bool
has_place p s = list_any (same_place p) s.places.keys
