-- Own: the names of a scope, in a set.
use Rattle.std.specs.Prelude.{◌≡◌, ℕ, List, Bool, true, false, Option, Some, None}
use Rattle.gj_base.specs.declared.place.Place.{Place}
use Rattle.go_typing.specs.Env.{Bind, is_blank}
use Rattle.go_typing.specs.Scopes.{place_in}
use Rattle.go_walk.specs.SetsHas.{has_name}
use Rattle.go_walk.specs.declared.sets.names.NameSet.{NameSet}

abbrev pub is_placed : Option Place → Bool
is_placed None = false
is_placed (Some at) = true

-- a set has the names of a scope; of `_` nothing is said
abbrev pub HasNames : NameSet → List Bind → Type 0
HasNames set bs = (x : List ℕ) → is_blank x ≡ false → has_name x set ≡ is_placed (place_in x bs)
