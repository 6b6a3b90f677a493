-- Go specification (as of Go 1.17), "Slice expressions", "Appending to and copying slices", "Making slices,
-- maps and channels", "Length and capacity".
use Rattle.std.specs.Prelude.{ℕ, zero, suc, ◌+◌, ◌-◌, ◌*◌, ℤ, pos, negsuc, List, [], ◌∷◌, ◌++◌, Bool, true, false, ◌&&◌, if◌then◌else◌, nat_lt, nat_le, length, Option, Some, None, slice_get, take, drop, min, map}
use Rattle.go_type.specs.Tree.{Ty, array, slice, str, pointer}
use Rattle.go_type.specs.Named.{NamedTy}
use Rattle.go_type.specs.Underlying.{underlying}
use Rattle.go_core.specs.Layout.{Shape, shape_of, size, weight}
use Rattle.go_core.specs.Memory as cell
use Rattle.go_core.specs.Memory.{Scalar, nil, whole, text, Value, Memory, MapState, Channel, read_cells, with_written, zeros, next_base, with_fresh, with_map, with_channel}
use Rattle.go_core.specs.RunPanic.{nil_used, bad_bounds, bad_size}
use Rattle.go_core.specs.Did.{Did, gives, panics, no_step, value_of, on_whole, on_none}
use Rattle.go_core.specs.StepNumbers.{made_text, most_elements, whole_of}
use Rattle.go_core.specs.StepMemory.{repeated, count_of}

-- ---- slice expressions

-- which bounds are written, and what they are: those that are missing are 0, the length, and the capacity
pub record Bounds : Type 0 where
  pub low : ℤ
  pub high : ℤ
  pub limit : ℤ

abbrev pub one_or : Bool → List Value → ℤ → (ℤ → List Value → Did) → Did
one_or false vs default_ f = f default_ vs
one_or true (x ∷ vs) default_ f = on_whole x λ n. f n vs
one_or true [] default_ f = no_step

-- takes the bounds that are written, in order
abbrev pub on_bounds : (has_low has_high has_limit : Bool) → ℕ → ℕ → List Value → (Bounds → Did) → Did
on_bounds has_low has_high has_limit len capacity vs f =
    one_or has_low vs (pos 0) λ low rest. one_or has_high rest (pos len) λ high rest'. one_or has_limit rest' (pos capacity) λ limit rest''. on_none rest'' (f (record { low = low; high = high; limit = limit }))

abbrev pub ordered : ℕ → (ℕ → ℕ → ℕ → Did) → ℤ → ℤ → ℤ → Did
ordered capacity f (pos low) (pos high) (pos limit) =
    if nat_le low high && nat_le high limit && nat_le limit capacity then f low high limit else panics bad_bounds 0
ordered capacity f _ _ _ = panics bad_bounds 0

-- 0 <= low <= high <= limit <= capacity
abbrev pub in_bounds : Bounds → ℕ → (ℕ → ℕ → ℕ → Did) → Did
in_bounds b capacity f = ordered capacity f b.low b.high b.limit

abbrev pub text_part : Memory → List ℕ → ℕ → ℕ → Did
text_part m bytes low high = made_text m (take (high - low) (drop low bytes))

abbrev pub slice_part : Memory → ℕ → ℕ → ℕ → ℕ → ℕ → Did
slice_part m base one_size low high limit =
    gives ((cell.slice (base + low * one_size) (high - low) (limit - low) ∷ []) ∷ []) m 0

abbrev pub array_sliced : List NamedTy → Ty → (ℕ → ℕ → (Bounds → Did) → Did) → ℕ → Memory → Did
array_sliced ns (array n u) bounds base m = bounds n n λ b. in_bounds b n λ low high limit. slice_part m base (size (shape_of ns u)) low high limit
array_sliced ns _ bounds base m = no_step

-- a part of a nil slice is nil; a nil pointer to an array has no part
abbrev pub sliced : List NamedTy → Ty → (ℕ → ℕ → (Bounds → Did) → Did) → Value → Memory → Did
sliced ns str bounds (text bytes ∷ []) m =
    bounds (length bytes) (length bytes) λ b. in_bounds b (length bytes) λ low high limit. text_part m bytes low high
sliced ns (slice t) bounds (cell.slice base len capacity ∷ []) m =
    bounds len capacity λ b. in_bounds b capacity λ low high limit. slice_part m base (size (shape_of ns t)) low high limit
sliced ns (slice t) bounds (nil ∷ []) m = bounds 0 0 λ b. in_bounds b 0 λ low high limit. gives ((nil ∷ []) ∷ []) m 0
sliced ns (pointer t) bounds (nil ∷ []) m = panics nil_used 0
sliced ns (pointer t) bounds (cell.pointer base ∷ []) m = array_sliced ns (underlying ns t) bounds base m
sliced ns _ bounds x m = no_step

abbrev pub slice_step : List NamedTy → Ty → (has_low has_high has_limit : Bool) → List Value → Memory → Did
slice_step ns from has_low has_high has_limit [] m = no_step
slice_step ns from has_low has_high has_limit (x ∷ vs) m =
    sliced ns (underlying ns from) (λ len capacity f. on_bounds has_low has_high has_limit len capacity vs f) x m

-- ---- append and copy

-- the elements of a slice, or of the bytes of a string, as scalars
abbrev pub on_elements : ℕ → Value → Memory → (Value → ℕ → Did) → Did
on_elements one_size (text bytes ∷ []) m f = f (map whole_of bytes) (length bytes)
on_elements one_size (cell.slice base len capacity ∷ []) m f = f (read_cells base (len * one_size) m.cells) len
on_elements one_size (nil ∷ []) m f = f [] 0
on_elements one_size _ m f = no_step

-- own, where Go leaves it open: a new array has any capacity from the need to the limit
abbrev pub new_capacity : ℕ → ℕ → ℕ
new_capacity needed wanted = if nat_le needed wanted && nat_le wanted most_elements then wanted else needed

-- into a new array, with what is left of its capacity at zero
abbrev pub appended_anew : Shape → ℕ → ℕ → Value → Value → Memory → Did
appended_anew s needed capacity old more m =
    gives ((cell.slice (next_base m) needed capacity ∷ []) ∷ [])
    (with_fresh m (old ++ more ++ repeated (capacity - needed) (zeros s)))
    (1 + needed * weight s)

abbrev pub appended : Shape → ℕ → Value → Value → ℕ → Memory → Did
appended s wanted (cell.slice base len capacity ∷ []) more count m =
    if nat_le (len + count) capacity
    then gives ((cell.slice base (len + count) capacity ∷ []) ∷ []) (with_written m (base + len * size s) more) (count * weight s)
    else (if nat_lt most_elements (len + count) then panics bad_size 0
    else appended_anew s (len + count) (new_capacity (len + count) wanted) (read_cells base (len * size s) m.cells) more m)
appended s wanted (nil ∷ []) more zero m = gives ((nil ∷ []) ∷ []) m 0
appended s wanted (nil ∷ []) more (suc n) m =
    if nat_lt most_elements (suc n) then panics bad_size 0
    else appended_anew s (suc n) (new_capacity (suc n) wanted) [] more m
appended s wanted _ more count m = no_step

-- in place where the capacity holds, else into a new array
abbrev pub append_step : List NamedTy → Ty → ℕ → Value → Value → Memory → Did
append_step ns (slice t) wanted x y m =
    on_elements (size (shape_of ns t)) y m λ more count. appended (shape_of ns t) wanted x more count m
append_step ns _ wanted x y m = no_step

-- as many elements as both have, as if at once
abbrev pub copied : Shape → Value → Value → ℕ → Memory → Did
copied s (cell.slice base len capacity ∷ []) more count m =
    gives ((whole (pos (min len count)) ∷ []) ∷ []) (with_written m base (take (min len count * size s) more)) (min len count * weight s)
copied s (nil ∷ []) more count m = gives ((whole (pos 0) ∷ []) ∷ []) m 0
copied s _ more count m = no_step

abbrev pub copy_step : List NamedTy → Ty → Value → Value → Memory → Did
copy_step ns (slice t) x y m = on_elements (size (shape_of ns t)) y m λ more count. copied (shape_of ns t) x more count m
copy_step ns _ x y m = no_step

-- ---- make

-- a size within the limit
abbrev pub on_size : ℤ → (ℕ → Did) → Did
on_size (pos n) f = if nat_lt most_elements n then panics bad_size 0 else f n
on_size (negsuc n) f = panics bad_size 0

abbrev pub made_of : Shape → ℕ → ℕ → Memory → Did
made_of s len capacity m =
    if nat_lt capacity len then panics bad_size 0
    else gives ((cell.slice (next_base m) len capacity ∷ []) ∷ []) (with_fresh m (repeated capacity (zeros s))) (1 + capacity * weight s)

-- the length, and the capacity where it is written
abbrev pub make_slice_step : List NamedTy → Ty → List Value → Memory → Did
make_slice_step ns (slice t) (x ∷ []) m = on_whole x λ n. on_size n λ len. made_of (shape_of ns t) len len m
make_slice_step ns (slice t) (x ∷ y ∷ []) m =
    on_whole x λ n. on_whole y λ k. on_size n λ len. on_size k λ capacity. made_of (shape_of ns t) len capacity m
make_slice_step ns _ _ m = no_step

abbrev pub empty_map : MapState
empty_map = record { entries = []; next_birth = 0 }

abbrev pub made_map : Memory → Did
made_map m = gives ((cell.map (length m.maps) ∷ []) ∷ []) (with_map m empty_map) 1

abbrev pub map_of_count : ℤ → Memory → Did
map_of_count (pos n) m = made_map m
map_of_count (negsuc n) m = panics bad_size 0

-- own: a negative count panics; a count says nothing else
abbrev pub make_map_step : List Value → Memory → Did
make_map_step [] m = made_map m
make_map_step (x ∷ []) m = on_whole x λ n. map_of_count n m
make_map_step _ m = no_step

abbrev pub made_channel : Memory → ℕ → Did
made_channel m n = gives ((cell.channel (length m.channels) ∷ []) ∷ []) (with_channel m (record { capacity = n; values = []; closed = false })) 1

abbrev pub make_channel_step : List Value → Memory → Did
make_channel_step [] m = made_channel m 0
make_channel_step (x ∷ []) m = on_whole x λ n. on_size n λ k. made_channel m k
make_channel_step _ m = no_step

-- ---- len and cap

abbrev pub entry_count : Option MapState → ℕ
entry_count None = 0
entry_count (Some state) = length state.entries

abbrev pub buffered : Option Channel → ℕ
buffered None = 0
buffered (Some c) = length c.values

abbrev pub capacity_of : Option Channel → ℕ
capacity_of None = 0
capacity_of (Some c) = c.capacity

abbrev pub number_step : Memory → ℕ → Did
number_step m n = value_of m (whole (pos n)) 0

-- of nil it is 0
abbrev pub scalar_length : Value → Memory → Did
scalar_length (text bytes ∷ []) m = number_step m (length bytes)
scalar_length (cell.slice base len capacity ∷ []) m = number_step m len
scalar_length (cell.map name ∷ []) m = number_step m (entry_count (slice_get m.maps name))
scalar_length (cell.channel name ∷ []) m = number_step m (buffered (slice_get m.channels name))
scalar_length (nil ∷ []) m = number_step m 0
scalar_length _ m = no_step

abbrev pub scalar_capacity : Value → Memory → Did
scalar_capacity (cell.slice base len capacity ∷ []) m = number_step m capacity
scalar_capacity (cell.channel name ∷ []) m = number_step m (capacity_of (slice_get m.channels name))
scalar_capacity (nil ∷ []) m = number_step m 0
scalar_capacity _ m = no_step

-- of an array, and of a pointer to one, it is the type's
abbrev pub measured : List NamedTy → Ty → (Value → Memory → Did) → Value → Memory → Did
measured ns (array n t) of_scalar x m = number_step m n
measured ns (pointer t) of_scalar x m = number_step m (count_of (underlying ns t))
measured ns _ of_scalar x m = of_scalar x m

abbrev pub len_step : List NamedTy → Ty → Value → Memory → Did
len_step ns from x m = measured ns (underlying ns from) scalar_length x m

abbrev pub cap_step : List NamedTy → Ty → Value → Memory → Did
cap_step ns from x m = measured ns (underlying ns from) scalar_capacity x m
