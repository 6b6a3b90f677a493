-- Go specification (as of Go 1.17), "Variables", "Address operators", "Selectors", "Index expressions",
-- "Composite literals", "Allocation": places and what lies there.
use Rattle.std.specs.Prelude.{ℕ, zero, suc, ◌+◌, ◌*◌, ℤ, pos, negsuc, List, [], ◌∷◌, ◌++◌, if◌then◌else◌, nat_lt, length, Option, Some, None, slice_get}
use Rattle.go_type.specs.Tree.{Ty, array, slice}
use Rattle.go_type.specs.Named.{NamedTy}
use Rattle.go_core.specs.Layout.{Shape, shape_of, size, weight, part_of, offset_in}
use Rattle.go_core.specs.Memory as cell
use Rattle.go_core.specs.Memory.{Scalar, nil, pointer, whole, text, Value, Memory, read_cells, written, zeros, next_base, with_fresh}
use Rattle.go_core.specs.CoreTree.{PackageVar, Constant, truth_constant, whole_constant, text_constant}
use Rattle.go_core.specs.RunPanic.{nil_used, bad_index, bad_size}
use Rattle.go_core.specs.Did.{Did, gives, panics, no_step, value_of, on_whole, on_text, on_place}
use Rattle.go_core.specs.StepNumbers.{made_text, most_elements}

-- the first place of a package variable: they lie one after another, from the beginning
abbrev pub global_base : List NamedTy → List PackageVar → ℕ → ℕ
global_base ns [] n = 0
global_base ns (g ∷ gs) zero = 0
global_base ns (g ∷ gs) (suc n) = size (shape_of ns g.type_) + global_base ns gs n

-- all package variables at zero
abbrev pub global_zeros : List NamedTy → List PackageVar → Value
global_zeros ns [] = []
global_zeros ns (g ∷ gs) = zeros (shape_of ns g.type_) ++ global_zeros ns gs

abbrev pub global_weight : List NamedTy → List PackageVar → ℕ
global_weight ns [] = 0
global_weight ns (g ∷ gs) = weight (shape_of ns g.type_) + global_weight ns gs

abbrev pub constant_step : Constant → Memory → Did
constant_step (truth_constant b) m = value_of m (cell.truth b) 1
constant_step (whole_constant n) m = value_of m (whole n) 1
constant_step (text_constant bytes) m = made_text m bytes

abbrev pub zero_step : Shape → Memory → Did
zero_step s m = gives (zeros s ∷ []) m (weight s)

-- "Address operators": a nil pointer points nowhere
abbrev pub deref_step : Value → Memory → Did
deref_step (pointer base ∷ []) m = value_of m (pointer base) 0
deref_step (nil ∷ []) m = panics nil_used 0
deref_step _ m = no_step

abbrev pub field_step : Shape → ℕ → Value → Memory → Did
field_step s number p m = on_place p λ base. value_of m (pointer (base + offset_in (part_of s number))) 0

-- "Index expressions": an index is in range where it isn't negative and below the length
abbrev pub on_index : ℤ → ℕ → (ℕ → Did) → Did
on_index (pos i) n f = if nat_lt i n then f i else panics (bad_index (pos i) n) 0
on_index (negsuc i) n f = panics (bad_index (negsuc i) n) 0

abbrev pub element_of : Ty → Option Ty
element_of (array n t) = Some t
element_of (slice t) = Some t
element_of _ = None

abbrev pub count_of : Ty → ℕ
count_of (array n t) = n
count_of _ = 0

abbrev pub elem_step : List NamedTy → Ty → Value → Value → Memory → Did
elem_step ns (array n t) p i m =
    on_place p λ base. on_whole i λ index. on_index index n λ k. value_of m (pointer (base + k * size (shape_of ns t))) 0
elem_step ns _ p i m = no_step

abbrev pub slice_elem_at : ℕ → Value → ℤ → Memory → Did
slice_elem_at one_size (cell.slice base n capacity ∷ []) index m = on_index index n λ k. value_of m (pointer (base + k * one_size)) 0
slice_elem_at one_size (nil ∷ []) index m = on_index index 0 λ k. no_step
slice_elem_at one_size _ index m = no_step

abbrev pub slice_elem_step : List NamedTy → Ty → Value → Value → Memory → Did
slice_elem_step ns (slice t) x i m = on_whole i λ index. slice_elem_at (size (shape_of ns t)) x index m
slice_elem_step ns _ x i m = no_step

abbrev pub read_step : Shape → Value → Memory → Did
read_step s p m = on_place p λ base. gives (read_cells base (size s) m.cells ∷ []) m (weight s)

-- "Index expressions": a byte of a string
abbrev pub byte_or_none : Memory → Option ℕ → Did
byte_or_none m None = no_step
byte_or_none m (Some b) = value_of m (whole (pos b)) 0

abbrev pub byte_at_step : Value → Value → Memory → Did
byte_at_step x i m = on_text x λ bytes. on_whole i λ index. on_index index (length bytes) λ k. byte_or_none m (slice_get bytes k)

-- "Allocation"
abbrev pub new_step : Shape → Memory → Did
new_step s m = gives ((pointer (next_base m) ∷ []) ∷ []) (with_fresh m (zeros s)) (weight s)

-- ---- "Composite literals"

-- the scalars with those of each element at its place
abbrev pub with_elements : (ℕ → ℕ) → List ℕ → List Value → Value → Value
with_elements offset_of (i ∷ is) (v ∷ vs) xs = with_elements offset_of is vs (written xs (offset_of i) v)
with_elements offset_of _ _ xs = xs

abbrev pub part_offset : Shape → ℕ → ℕ
part_offset s i = offset_in (part_of s i)

-- so many zeros, one after another
abbrev pub repeated : ℕ → Value → Value
repeated zero xs = []
repeated (suc n) xs = xs ++ repeated n xs

abbrev pub build_slice : Shape → ℕ → List ℕ → List Value → Memory → Did
build_slice s count indexes vs m =
    if nat_lt most_elements count then panics bad_size 0
    else gives ((cell.slice (next_base m) count count ∷ []) ∷ [])
    (with_fresh m (with_elements (λ i. i * size s) indexes vs (repeated count (zeros s))))
    (1 + count * weight s)

abbrev pub build_step : List NamedTy → Ty → Ty → ℕ → List ℕ → List Value → Memory → Did
build_step ns t (slice u) count indexes vs m = build_slice (shape_of ns u) count indexes vs m
build_step ns t _ count indexes vs m =
    gives (with_elements (part_offset (shape_of ns t)) indexes vs (zeros (shape_of ns t)) ∷ []) m (weight (shape_of ns t))
