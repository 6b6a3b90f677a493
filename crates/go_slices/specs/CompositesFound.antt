-- What the parts of a step find, for private clauses.
use Rattle.std.specs.Prelude.{◌≡◌, List, Bool, true, false, if◌then◌else◌, Result, Ok, Err, Option, Some, None}
use Rattle.go_type.specs.Tree.{Ty, bool, int, str}
use Rattle.go_type.specs.Levels.{tree_of}
use Rattle.go_type.specs.Named.{NamedTy}
use Rattle.go_core.specs.Memory as core
use Rattle.go_core.specs.Memory.{Value, packed}
use Rattle.go_core.specs.Did.{Did, gives}
use Rattle.go_core.specs.Layout.{shape_of, weight}
use Rattle.go_core.specs.SameType.{same_type}
use Rattle.go_core.specs.StepInterfaces.{failed}
use Rattle.go_core.specs.StepMaps.{with_ok}
use Rattle.go_values.specs.ValuesSeen.{value_of}
use Rattle.go_values.specs.OperatorsSeen.{Stops}
use Rattle.go_values.specs.declared.operators.did.Stop.{Stop}
use Rattle.go_slices.specs.declared.composites.interfaces.Held.{Held}
use Rattle.go_slices.specs.declared.composites.operator.Pair.{Pair}

-- ---- operands

-- two operands
abbrev pub PairFound : List Ty → Result Pair Stop → ((Value → Value → Did) → Did) → Type 0
PairFound ts (Ok p) goes_on = (f : Value → Value → Did) → goes_on f ≡ f (value_of ts p.left.now) (value_of ts p.right.now)
PairFound ts (Err e) goes_on = (f : Value → Value → Did) → Stops e (goes_on f)

-- ---- interface values

abbrev pub is_interface : core.Scalar → Bool
is_interface (core.interface t xs) = true
is_interface x = false

-- what an interface value holds, and none of another scalar
abbrev pub HeldFound : List Ty → Option Held → core.Scalar → Type 0
HeldFound ts (Some h) x = x ≡ core.interface (tree_of ts h.ty) (packed (value_of ts h.content.now))
HeldFound ts None x = is_interface x ≡ false

-- the predeclared boolean, an integer or the string type
abbrev pub is_basic : Ty → Bool
is_basic bool = true
is_basic (int name) = true
is_basic str = true
is_basic t = false

-- an assertion to a type that is no interface
abbrev pub asserted_else : List NamedTy → Ty → Bool → Ty → Value → core.Memory → Did
asserted_else ns to ok t xs m =
    if same_type t to then gives (with_ok ok xs true) m (weight (shape_of ns to)) else failed ok (shape_of ns to) m
