-- A call of a function, and of a predeclared one, with what is given; `spread` says whether `...` follows.
use Rattle.std.specs.Prelude.{ℕ, List, Bool, if◌then◌else◌}
use Rattle.gj_base.specs.declared.place.Place.{Place}
use Rattle.go_type.specs.Tree.{Tys}
use Rattle.go_type.specs.Named.{NamedTy}
use Rattle.go_typing.specs.Env.{Builtin}
use Rattle.go_typing.specs.Answer.{Answer}
use Rattle.go_typing.specs.Call.{Given, spread_given, function_given, built_in_call}

module _ (ns : List NamedTy) where
  abbrev pub function_as : Place → ℕ → (params results : Tys) → (spread : Bool) → Given → Answer
  function_as at id ps rs spread g = if spread then spread_given ns at g else function_given ns at id ps rs g

  abbrev pub built_in_as : Place → Builtin → (spread : Bool) → Given → Answer
  built_in_as at b spread g = if spread then spread_given ns at g else built_in_call ns at b g
