-- Go specification (as of Go 1.17), "Types": underlying types.
use Rattle.std.specs.Prelude.{ℕ, List, Option, Some, None, slice_get}
use Rattle.go_type.specs.Tree.{Ty, named}
use Rattle.go_type.specs.Named.{NamedTy}

abbrev pub under_in : Option NamedTy → Option Ty
under_in None = None
under_in (Some x) = x.under

-- what a named type stands for, once that is set
abbrev pub under_at : List NamedTy → ℕ → Option Ty
under_at ns id = under_in (slice_get ns id)

abbrev pub or_else : Option Ty → Ty → Ty
or_else None t = t
or_else (Some u) t = u

-- what a named type stands for, once that is set, and else the type itself
abbrev pub underlying : List NamedTy → Ty → Ty
underlying ns (named id) = or_else (under_at ns id) (named id)
underlying ns t = t
