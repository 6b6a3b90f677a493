-- Own: what is told of several expressions that were typed before, as parts of a statement with a fault.
use Rattle.std.specs.Prelude.{ℕ, List, [], ◌∷◌}
use Rattle.gj_base.specs.declared.place.Place.{Place}
use Rattle.go_typing.specs.Answer.{Flaw, flaw}
use Rattle.go_typing.specs.Assign.{where_typed}
use Rattle.go_expr.specs.Raw.{Raw}
use Rattle.go_assign.specs.Settled.{all_known, all_told}

-- a fault where all are typed and have none, else theirs
abbrev pub unless_told : Place → ℕ → List Raw → List Flaw
unless_told at code rs = where_typed (all_known rs) (all_told rs) (flaw at code ∷ [])
