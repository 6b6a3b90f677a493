-- Go specification (as of Go 1.17), "Arithmetic operators", "Comparison operators", "Logical operators",
-- "String concatenation", "Conversions": steps that look at no memory.
use Rattle.std.specs.Prelude.{ℕ, ◌+◌, ℤ, pos, List, [], ◌∷◌, ◌++◌, Bool, not, if◌then◌else◌, nat_lt, length, Option, Some, None, map, flat_map, min}
use Rattle.gj_base.specs.declared.kind.Kind.{Kind}
use Rattle.gj_base.specs.declared.kind.Kind.TheVariants as kinds
use Rattle.gj_base.specs.declared.kind.Op.{Op}
use Rattle.go_type.specs.Tree.{Ty, str, int, slice}
use Rattle.go_type.specs.Named.{NamedTy}
use Rattle.go_type.specs.Underlying.{underlying}
use Rattle.go_core.specs.Layout.{kind_of}
use Rattle.go_core.specs.Arithmetic.{wrapped, computed, is_shift, unary_of, numbers_in_order, in_order}
use Rattle.go_core.specs.Text.{encoded_number, runes, text_less}
use Rattle.go_core.specs.Memory as cell
use Rattle.go_core.specs.Memory.{Scalar, truth, whole, text, Value, Memory, next_base, with_fresh, read_cells}
use Rattle.go_core.specs.RunPanic.{zero_divisor, negative_shift, bad_size}
use Rattle.go_core.specs.Equality.{Verdict, equal, different, refused}
use Rattle.go_core.specs.RunPanic.{not_comparable}
use Rattle.go_core.specs.Did.{Did, gives, panics, no_step, value_of, on_whole, on_text, on_truth}

-- own: the most bytes of a string, and the most elements of a slice's array, a buffer and a map
abbrev pub most_bytes : ℕ
most_bytes = 268435456

abbrev pub most_elements : ℕ
most_elements = 67108864

-- a text that is made adds its bytes
abbrev pub made_text : Memory → List ℕ → Did
made_text m bytes =
    if nat_lt most_bytes (length bytes) then panics bad_size 0 else value_of m (text bytes) (length bytes)

-- the kind of an integer type
abbrev pub on_kind : Ty → (Kind → Did) → Did
on_kind (int name) f = f (kind_of name)
on_kind _ f = no_step

-- "Integer overflow": a result wraps
abbrev pub number_or : Op → Kind → Memory → Option ℤ → Did
number_or op kind m (Some n) = value_of m (whole (wrapped kind n)) 0
number_or op kind m None = panics (if is_shift op then negative_shift else zero_divisor) 0

abbrev pub binary_step : List NamedTy → Op → Ty → Value → Value → Memory → Did
binary_step ns op t x y m = on_kind (underlying ns t) λ kind. on_whole x λ a. on_whole y λ b. number_or op kind m (computed op kind a b)

abbrev pub unary_step : List NamedTy → Op → Ty → Value → Memory → Did
unary_step ns op t x m = on_kind (underlying ns t) λ kind. on_whole x λ a. value_of m (whole (wrapped kind (unary_of op a))) 0

abbrev pub concat_step : Value → Value → Memory → Did
concat_step x y m = on_text x λ a. on_text y λ b. made_text m (a ++ b)

abbrev pub not_step : Value → Memory → Did
not_step x m = on_truth x λ b. value_of m (truth (not b)) 0

abbrev pub equal_step : Bool → Verdict → Memory → Did
equal_step negated (equal units) m = value_of m (truth (not negated)) units
equal_step negated (different units) m = value_of m (truth negated) units
equal_step negated (refused units) m = panics not_comparable units

-- adds the bytes that are compared
abbrev pub less_step : Op → Ty → Value → Value → Memory → Did
less_step op (int name) x y m = on_whole x λ a. on_whole y λ b. value_of m (truth (numbers_in_order op a b)) 1
less_step op str x y m = on_text x λ a. on_text y λ b. value_of m (truth (in_order op (text_less a b) (text_less b a))) (1 + min (length a) (length b))
less_step op _ x y m = no_step

-- ---- conversions

abbrev pub whole_of : ℕ → Scalar
whole_of n = whole (pos n)

-- a fresh array with these elements, and the slice of all of it
abbrev pub made_slice : Memory → List ℕ → Did
made_slice m [] = if nat_lt most_elements 0 then panics bad_size 0 else gives ((cell.slice (next_base m) 0 0 ∷ []) ∷ []) m 1
made_slice m ns =
    if nat_lt most_elements (length ns) then panics bad_size 0
    else gives ((cell.slice (next_base m) (length ns) (length ns) ∷ []) ∷ []) (with_fresh m (map whole_of ns)) (length ns)

abbrev pub number_in : Scalar → ℕ
number_in (whole (pos n)) = n
number_in _ = 0

abbrev pub character_of : Scalar → List ℕ
character_of (whole n) = encoded_number n
character_of _ = []

-- "Conversions to and from a string type": the bytes of a slice of bytes, or of its runes
abbrev pub text_of_slice : Kind → Value → List ℕ
text_of_slice kinds.U8 xs = map number_in xs
text_of_slice _ xs = flat_map character_of xs

abbrev pub slice_to_text : List NamedTy → Ty → Value → Memory → Did
slice_to_text ns (int name) (cell.slice base n capacity ∷ []) m = made_text m (text_of_slice (kind_of name) (read_cells base n m.cells))
slice_to_text ns (int name) (cell.nil ∷ []) m = made_text m []
slice_to_text ns _ _ m = no_step

-- the bytes of a text, or its runes
abbrev pub elements_of : Kind → List ℕ → List ℕ
elements_of kinds.U8 bytes = bytes
elements_of _ bytes = runes bytes

abbrev pub text_to_slice : Ty → Value → Memory → Did
text_to_slice (int name) x m = on_text x λ bytes. made_slice m (elements_of (kind_of name) bytes)
text_to_slice _ x m = no_step

-- "Conversions": by the underlying types; where nothing is said below, the value stays as it is
abbrev pub converted : List NamedTy → Ty → Ty → Value → Memory → Did
converted ns (int from) (int name) x m = on_whole x λ n. value_of m (whole (wrapped (kind_of name) n)) 0
converted ns (int from) str x m = on_whole x λ n. made_text m (encoded_number n)
converted ns (slice t) str x m = slice_to_text ns (underlying ns t) x m
converted ns str (slice t) x m = text_to_slice (underlying ns t) x m
converted ns _ _ x m = gives (x ∷ []) m 0

abbrev pub convert_step : List NamedTy → Ty → Ty → Value → Memory → Did
convert_step ns from to x m = converted ns (underlying ns from) (underlying ns to) x m
