-- Where the innermost declaration of a name stands. Go specification (as of Go 1.17), "Declarations and scope".
use Rattle.std.specs.Prelude.{ℕ, List, [], ◌∷◌, Option, None}
use Rattle.gj_base.specs.declared.place.Place.{Place}
use Rattle.go_typing.specs.Env.{Bind}
use Rattle.go_typing.specs.Scopes.{place_in}
use Rattle.go_operands.specs.Held.{first_place}

-- the innermost scope is the last
abbrev pub origin : List ℕ → List (List Bind) → Option Place
origin x [] = None
origin x (s ∷ ss) = first_place (origin x ss) (place_in x s)
