-- Functions that compute what the calls answer. Each public call ties them to specs/Operation.antt.
use Rattle.std.specs.Prelude.{◌≡◌, ℕ, ◌^◌, Bool, true, false, ◌&&◌, ◌||◌, not, if◌then◌else◌, List, ◌++◌, Option, Some, None, Result, Ok, Err, ℤ, pos, negsuc, ◌+ℤ◌, ◌-ℤ◌, ◌*ℤ◌, neg_ℤ, bytes_eq}
use Rattle.std.specs.Int.{int_shr}
use Rattle.std.specs.Int.RustNames.{int_div, int_rem, int_le, int_lt}
use Rattle.std.specs.Char.{encode_utf8}
use Rattle.std.specs.Ordering.{nat_cmp, int_eq, is_lt, is_le, is_gt, is_ge}
use Rattle.std.specs.Cmp.Lexicographic.{slice_cmp}
use lib.Utf8.{scalar}
use Rattle.gj_base.specs.declared.kind.Kind.{Kind}
use Rattle.gj_base.specs.declared.kind.Op.{Op}
use Rattle.gj_base.specs.declared.kind.Op.TheVariants as operator
use Rattle.go_const.specs.declared.constant.Const.{Const}
use Rattle.go_const.specs.declared.constant.Const.TheVariants as form
use Rattle.go_const.specs.declared.constant.Basic.{Basic}
use Rattle.go_const.specs.declared.constant.Basic.TheVariants as basic
use Rattle.go_const.specs.declared.constant.ConstRefusal.{ConstRefusal}
use Rattle.go_const.specs.declared.constant.ConstRefusal.TheVariants.{Code, NoMemory}
use Rattle.go_const.specs.Representability.{least, greatest, least_untyped, greatest_untyped, range_code}
use Rattle.go_const.specs.Bits.{int_and, int_or, int_xor, int_and_not}
use Rattle.go_const.specs.Operation.{all_ones, numeral, is_comparison, whole_of}

abbrev pub between : ℤ → ℤ → ℤ → Bool
between low high z = int_le low z && int_le z high

abbrev pub holds : Option Kind → ℤ → Bool
holds None z = between least_untyped greatest_untyped z
holds (Some kind) z = between (least kind) (greatest kind) z

-- the number where its range holds it, else the fault
abbrev pub settled_of : Option Kind → Bool → ℤ → Result Const ConstRefusal
settled_of kind rune z = if holds kind z then Ok (numeral kind rune z) else Err (Code (range_code kind))

-- the same, where a number of more than 128 bits is none
abbrev pub settled_value : Option Kind → Bool → Option ℤ → Result Const ConstRefusal
settled_value kind rune None = Err (Code (range_code kind))
settled_value kind rune (Some z) = settled_of kind rune z

abbrev pub arithmetic_of : Op → ℤ → ℤ → ℤ
arithmetic_of operator.Add x y = x +ℤ y
arithmetic_of operator.Sub x y = x -ℤ y
arithmetic_of operator.Mul x y = x *ℤ y
arithmetic_of operator.Div x y = int_div x y
arithmetic_of operator.Rem x y = int_rem x y
arithmetic_of operator.And x y = int_and x y
arithmetic_of operator.Or x y = int_or x y
arithmetic_of operator.Xor x y = int_xor x y
arithmetic_of operator.AndNot x y = int_and_not x y
arithmetic_of _ x y = x

abbrev pub zero_division : Op → ℤ → Bool
zero_division operator.Div y = int_eq y (pos 0)
zero_division operator.Rem y = int_eq y (pos 0)
zero_division _ y = false

abbrev pub compares_numbers : Op → ℤ → ℤ → Bool
compares_numbers operator.Eq x y = int_eq x y
compares_numbers operator.Ne x y = not (int_eq x y)
compares_numbers operator.Lt x y = int_lt x y
compares_numbers operator.Le x y = int_le x y
compares_numbers operator.Gt x y = int_lt y x
compares_numbers operator.Ge x y = int_le y x
compares_numbers _ x y = false

abbrev pub compares_texts : Op → List ℕ → List ℕ → Bool
compares_texts operator.Eq x y = bytes_eq x y
compares_texts operator.Ne x y = not (bytes_eq x y)
compares_texts operator.Lt x y = is_lt (slice_cmp nat_cmp x y)
compares_texts operator.Le x y = is_le (slice_cmp nat_cmp x y)
compares_texts operator.Gt x y = is_gt (slice_cmp nat_cmp x y)
compares_texts operator.Ge x y = is_ge (slice_cmp nat_cmp x y)
compares_texts _ x y = false

abbrev pub same_truth : Bool → Bool → Bool
same_truth true y = y
same_truth false y = not y

abbrev pub compares_truth : Op → Bool → Bool → Bool
compares_truth operator.AndThen x y = x && y
compares_truth operator.OrElse x y = x || y
compares_truth operator.Eq x y = same_truth x y
compares_truth operator.Ne x y = not (same_truth x y)
compares_truth _ x y = false

abbrev pub arithmetic_answer : Op → Option Kind → Bool → ℤ → ℤ → Result Const ConstRefusal
arithmetic_answer op kind rune x y =
    if zero_division op y then Err (Code 30) else settled_of kind rune (arithmetic_of op x y)

abbrev pub sign_of : Op → Option Kind → ℤ → ℤ
sign_of operator.Neg kind x = neg_ℤ x
sign_of operator.Compl kind x = int_xor (all_ones kind) x
sign_of _ kind x = x

abbrev pub shifted_of : Op → ℤ → ℕ → ℤ
shifted_of operator.Shr x n = int_shr x n
shifted_of _ x n = x *ℤ pos (2 ^ n)

abbrev pub shift_answer : Op → Option Kind → Bool → ℤ → ℤ → Result Const ConstRefusal
shift_answer op kind rune x (pos n) = settled_of kind rune (shifted_of op x n)
shift_answer op kind rune x (negsuc n) = Err (Code 33)

-- the character that a number stands for
abbrev pub character_of : ℤ → ℕ
character_of (pos n) = if scalar n then n else 0xFFFD
character_of (negsuc n) = 0xFFFD

-- the answer, or none for want of memory where the call takes some
abbrev pub OrNoMemory : Type 0 → Result Const ConstRefusal → Result Const ConstRefusal → Type 0
OrNoMemory takes (Ok c) answer = Ok c ≡ answer
OrNoMemory takes (Err (Code n)) answer = Err (Code n) ≡ answer
OrNoMemory takes (Err NoMemory) answer = takes

-- ---- the calls

abbrev pub unary_answer : Op → Option Kind → Const → Result Const ConstRefusal
unary_answer op kind (form.Bool x) = Ok (form.Bool (not x))
unary_answer op kind (form.Int x) = settled_of kind false (sign_of op kind x)
unary_answer op kind (form.Rune x) = settled_of kind true (sign_of op kind x)
unary_answer op kind (form.Text x) = Ok (form.Text x)

abbrev pub number_answer : Op → Option Kind → Bool → ℤ → ℤ → Result Const ConstRefusal
number_answer op kind rune x y =
    if is_comparison op then Ok (form.Bool (compares_numbers op x y)) else arithmetic_answer op kind rune x y

abbrev pub with_number : Op → Option Kind → Bool → ℤ → Const → Result Const ConstRefusal
with_number op kind rune x (form.Int y) = number_answer op kind rune x y
with_number op kind rune x (form.Rune y) = number_answer op kind true x y
with_number op kind rune x _ = Ok (form.Int x)

abbrev pub with_truth : Op → Bool → Const → Result Const ConstRefusal
with_truth op x (form.Bool y) = Ok (form.Bool (compares_truth op x y))
with_truth op x _ = Ok (form.Bool x)

abbrev pub text_answer : Op → List ℕ → List ℕ → Result Const ConstRefusal
text_answer operator.Add x y = Ok (form.Text (x ++ y))
text_answer op x y = Ok (form.Bool (compares_texts op x y))

abbrev pub with_text : Op → List ℕ → Const → Result Const ConstRefusal
with_text op x (form.Text y) = text_answer op x y
with_text op x _ = Ok (form.Text x)

abbrev pub binary_answer : Op → Option Kind → Const → Const → Result Const ConstRefusal
binary_answer op kind (form.Bool x) y = with_truth op x y
binary_answer op kind (form.Int x) y = with_number op kind false x y
binary_answer op kind (form.Rune x) y = with_number op kind true x y
binary_answer op kind (form.Text x) y = with_text op x y

abbrev pub shifted_by : Op → Option Kind → Bool → ℤ → Option ℤ → Result Const ConstRefusal
shifted_by op kind rune x (Some n) = shift_answer op kind rune x n
shifted_by op kind rune x None = Ok (form.Int x)

abbrev pub shift_of : Op → Option Kind → Const → Const → Result Const ConstRefusal
shift_of op kind (form.Int x) count = shifted_by op kind false x (whole_of count)
shift_of op kind (form.Rune x) count = shifted_by op kind true x (whole_of count)
shift_of op kind x count = Ok x

abbrev pub number_to : ℤ → Basic → Result Const ConstRefusal
number_to x (basic.Int kind) = settled_of (Some kind) false x
number_to x _ = Ok (form.Text (encode_utf8 (character_of x)))

abbrev pub conversion_of : Const → Basic → Result Const ConstRefusal
conversion_of (form.Int x) to = number_to x to
conversion_of (form.Rune x) to = number_to x to
conversion_of x to = Ok x
