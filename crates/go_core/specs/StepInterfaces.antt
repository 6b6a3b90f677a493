-- Go specification (as of Go 1.17), "Interface types", "Type assertions", "Method values", "Errors": interface
-- values and the methods of what they hold. own: the text of a panic's value.
use Rattle.std.specs.Prelude.{ℕ, suc, List, [], ◌∷◌, Bool, true, false, ◌&&◌, if◌then◌else◌, bytes_eq, codes, Option, Some, None, slice_get}
use Rattle.go_type.specs.Tree.{Ty, Tys, Specs, bool, str, int, interface, no_tys, more_tys, no_specs, more_specs}
use Rattle.go_type.specs.Named.{NamedTy}
use Rattle.go_type.specs.Underlying.{underlying}
use Rattle.go_core.specs.Layout.{Shape, shape_of, weight}
use Rattle.go_core.specs.SameType.{same_type, same_types, same_truth}
use Rattle.go_core.specs.Memory as cell
use Rattle.go_core.specs.Memory.{Scalar, nil, truth, whole, text, Value, Memory, Scalars, packed, listed, zeros}
use Rattle.go_core.specs.CoreTree.{CoreFunc, MethodName, MethodRow, CoreProgram}
use Rattle.go_core.specs.RunPanic.{nil_used, wrong_type}
use Rattle.go_core.specs.Did.{Did, gives, panics, no_step, value_of}
use Rattle.go_core.specs.Text.{number_text, truth_text}
use Rattle.go_core.specs.StepMaps.{with_ok}

-- ---- method rows

abbrev pub is_row : MethodName → MethodRow → Bool
is_row n r = same_type n.type_ r.type_ && bytes_eq n.name r.name && bytes_eq n.package_ r.package_

-- the place of a method's row, counted from k
abbrev pub row_from : ℕ → MethodName → List MethodRow → Option ℕ
row_from k n [] = None
row_from k n (r ∷ rs) = if is_row n r then Some k else row_from (suc k) n rs

abbrev pub row_of : CoreProgram → MethodName → Option ℕ
row_of p n = row_from 0 n p.methods

abbrev pub func_in : CoreProgram → Option MethodRow → Option CoreFunc
func_in p None = None
func_in p (Some r) = slice_get p.funcs r.func

abbrev pub func_of_row : CoreProgram → Option ℕ → Option CoreFunc
func_of_row p None = None
func_of_row p (Some k) = func_in p (slice_get p.methods k)

-- ---- "Type assertions"

abbrev pub has_signature : Tys → Tys → Bool → Option CoreFunc → Bool
has_signature params results variadic None = false
has_signature params results variadic (Some f) =
    same_types f.params params && same_types f.results results && same_truth f.variadic variadic

-- "Interface types": a type implements an interface where it has each of its methods
abbrev pub implements : CoreProgram → Ty → Specs → Bool
implements p t no_specs = true
implements p t (more_specs name package_ params results variadic ms) =
    has_signature params results variadic (func_of_row p (row_of p (record { type_ = t; name = name; package_ = package_ }))) && implements p t ms

abbrev pub failed : Bool → Shape → Memory → Did
failed true s m = gives (with_ok true (zeros s) false) m (weight s)
failed false s m = panics wrong_type 0

-- to a type that is no interface: the value of exactly that type
abbrev pub asserted : CoreProgram → Ty → Ty → Bool → Scalar → Memory → Did
asserted p to (interface ms) ok (cell.interface t xs) m =
    if implements p t ms then gives (with_ok ok (cell.interface t xs ∷ []) true) m 1 else failed ok (shape_of p.names to) m
asserted p to under ok (cell.interface t xs) m =
    if same_type t to then gives (with_ok ok (listed xs) true) m (weight (shape_of p.names to)) else failed ok (shape_of p.names to) m
asserted p to under ok x m = failed ok (shape_of p.names to) m

abbrev pub assert_step : CoreProgram → Ty → Bool → Value → Memory → Did
assert_step p to ok (x ∷ []) m = asserted p to (underlying p.names to) ok x m
assert_step p to ok _ m = no_step

-- an interface value holds the type of the value, and a copy
abbrev pub wrap_step : List NamedTy → Ty → Value → Memory → Did
wrap_step ns from x m = value_of m (cell.interface from (packed x)) (weight (shape_of ns from))

-- own: the predeclared type of a named boolean, integer or string type
abbrev pub basic_type : Ty → Ty → Ty
basic_type t bool = bool
basic_type t (int name) = int name
basic_type t str = str
basic_type t _ = t

abbrev pub basic_step : List NamedTy → Value → Memory → Did
basic_step ns (cell.interface t xs ∷ []) m = value_of m (cell.interface (basic_type t (underlying ns t)) xs) (weight (shape_of ns t))
basic_step ns x m = gives (x ∷ []) m 1

-- ---- "Method values"

abbrev pub bound_or_not : Memory → ℕ → Value → Option ℕ → Did
bound_or_not m units x None = no_step
bound_or_not m units x (Some row) = value_of m (cell.bound_method row (packed x)) units

-- the receiver is copied
abbrev pub bind_step : CoreProgram → MethodName → Value → Memory → Did
bind_step p n x m = bound_or_not m (weight (shape_of p.names n.type_)) x (row_of p n)

-- of an interface value: what it holds is copied; a nil one has no method
abbrev pub bind_dynamic_step : CoreProgram → List ℕ → List ℕ → Value → Memory → Did
bind_dynamic_step p name package_ (cell.interface t xs ∷ []) m =
    bound_or_not m (weight (shape_of p.names t)) (listed xs) (row_of p (record { type_ = t; name = name; package_ = package_ }))
bind_dynamic_step p name package_ (nil ∷ []) m = panics nil_used 0
bind_dynamic_step p name package_ _ m = no_step

-- ---- own: the text of a panic's value

abbrev pub one_string : Tys
one_string = more_tys str no_tys

-- the row of its method `Error() string`, where it has one
abbrev pub error_row : CoreProgram → Scalar → Option ℕ
error_row p (cell.interface t xs) =
    let row = row_of p (record { type_ = t; name = codes "Error"; package_ = [] }) in
    if has_signature no_tys one_string false (func_of_row p row) then row else None
error_row p _ = None

abbrev pub composite_text : List ℕ
composite_text = codes "(value)"

abbrev pub content_text : Ty → Scalars → List ℕ
content_text bool (cell.scalar (truth b) xs) = truth_text b
content_text (int name) (cell.scalar (whole n) xs) = number_text n
content_text str (cell.scalar (text bytes) xs) = bytes
content_text _ xs = composite_text

-- by its underlying type, without a method
abbrev pub plain_text : List NamedTy → Scalar → List ℕ
plain_text ns (cell.interface t xs) = content_text (underlying ns t) xs
plain_text ns _ = codes "nil"
