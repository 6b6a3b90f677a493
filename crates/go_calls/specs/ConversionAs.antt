-- The conversion of operands to a type; `spread` says whether `...` follows the last one.
use Rattle.std.specs.Prelude.{List, Bool, if◌then◌else◌}
use Rattle.gj_base.specs.declared.place.Place.{Place}
use Rattle.go_type.specs.Tree.{Ty}
use Rattle.go_type.specs.Named.{NamedTy}
use Rattle.go_typing.specs.Answer.{Answer, bad}
use Rattle.go_typing.specs.Operand.{Operand}
use Rattle.go_typing.specs.Convert.{conversion_of_all}

module _ (ns : List NamedTy) where
  abbrev pub conversion_as : Place → Ty → (spread : Bool) → List (Place × Operand) → Answer
  conversion_as at t spread xs = if spread then bad at 60 else conversion_of_all ns at t xs
