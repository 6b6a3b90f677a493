-- Variables of a list.
use Rattle.std.specs.Prelude.{ℕ, List, [], ◌∷◌, ◌==◌, if◌then◌else◌, Option, Some}
use Rattle.go_type.specs.Tree.{Ty}
use Rattle.go_core.specs.CoreTree.{Var}

-- the type of the last variable with a number, or else this one
abbrev pub last_type : ℕ → List Var → Option Ty → Option Ty
last_type v [] t = t
last_type v (x ∷ xs) t = last_type v xs (if x.id == v then Some x.type_ else t)
