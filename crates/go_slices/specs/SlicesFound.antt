-- What the parts of a step find, for private clauses.
use Rattle.std.specs.Prelude.{◌≡◌, ℕ, ℤ, List, Result, Ok, Err}
use Rattle.go_type.specs.Tree.{Ty}
use Rattle.go_core.specs.Memory.{Value}
use Rattle.go_core.specs.Did.{Did}
use Rattle.go_core.specs.StepSlices as slices
use Rattle.go_core.specs.StepSlices.{on_bounds, in_bounds}
use Rattle.go_values.specs.ValuesSeen.{value_of, values_of}
use Rattle.go_values.specs.OperatorsSeen.{Stops}
use Rattle.go_values.specs.declared.operators.did.Stop.{Stop}
use Rattle.go_slices.specs.declared.slices.append.Elements.{Elements}
use Rattle.go_slices.specs.declared.slices.slicing.Bound.{Bound}
use Rattle.go_slices.specs.declared.slices.slicing.Bounds.{Bounds}
use Rattle.go_slices.specs.declared.slices.slicing.Part.{Part}
use Rattle.go_slices.specs.declared.slices.slicing.Written.{Written}

-- no operand is left
abbrev pub NoneLeft : Result Unit Stop → (Did → Did) → Type 0
NoneLeft (Ok x) goes_on = (d : Did) → goes_on d ≡ d
NoneLeft (Err e) goes_on = (d : Did) → Stops e (goes_on d)

abbrev pub bounds_of : Bounds → slices.Bounds
bounds_of b = record { low = b.low; high = b.high; limit = b.limit }

-- the bounds that are written, of a length and a capacity
abbrev pub bounds_by : Written → List Value → ℕ → ℕ → (slices.Bounds → Did) → Did
bounds_by written vs len capacity f = on_bounds written.low written.high written.limit len capacity vs f

-- bounds that are in range
abbrev pub part_after : ((slices.Bounds → Did) → Did) → ℕ → (ℕ → ℕ → ℕ → Did) → Did
part_after bounds capacity f = bounds λ b. in_bounds b capacity f

-- a bound, and the operands after it
abbrev pub BoundFound : List Ty → Result Bound Stop → ((ℤ → List Value → Did) → Did) → Type 0
BoundFound ts (Ok b) goes_on = (f : ℤ → List Value → Did) → goes_on f ≡ f b.value (values_of ts b.rest.now)
BoundFound ts (Err e) goes_on = (f : ℤ → List Value → Did) → Stops e (goes_on f)

-- a low bound, a high one and a limit, in range
abbrev pub PartFound : Result Part Stop → ((ℕ → ℕ → ℕ → Did) → Did) → Type 0
PartFound (Ok p) goes_on = (f : ℕ → ℕ → ℕ → Did) → goes_on f ≡ f p.low p.high p.limit
PartFound (Err e) goes_on = (f : ℕ → ℕ → ℕ → Did) → Stops e (goes_on f)

-- elements as scalars, and how many
abbrev pub ElementsFound : List Ty → Result Elements Stop → ((Value → ℕ → Did) → Did) → Type 0
ElementsFound ts (Ok e) goes_on = (f : Value → ℕ → Did) → goes_on f ≡ f (value_of ts e.cells.now) e.count
ElementsFound ts (Err e) goes_on = (f : Value → ℕ → Did) → Stops e (goes_on f)
