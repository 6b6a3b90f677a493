-- Go specification (as of Go 1.17), "Arithmetic operators", "Comparison operators", "Logical operators",
-- "String concatenation", "Constant expressions", "Conversions": exact values, on whole numbers
-- without bound.
use Rattle.std.specs.Prelude.{◌≡◌, ◌≢◌, ℕ, ◌*◌, ◌^◌, ◌<◌, ◌≤◌, ◌⊎◌, ◌↔◌, Bool, true, false, IsTrue, List, ◌++◌, Option, Some, None, min, max, ℤ, pos, negsuc, ◌+ℤ◌, ◌-ℤ◌, ◌*ℤ◌, ◌<ℤ◌, ◌≤ℤ◌, neg_ℤ, ◌||◌}
use Rattle.std.specs.Int.RustNames.{unsigned_abs}
use Rattle.std.specs.Char.{IsScalar, encode_utf8}
use Rattle.std.specs.Ordering.{nat_cmp}
use Rattle.std.specs.declared.cmp.Ordering.TheVariants.{Less, Greater}
use Rattle.std.specs.Cmp.Lexicographic.{slice_cmp}
use Rattle.gj_base.specs.declared.kind.Kind.{Kind}
use Rattle.gj_base.specs.declared.kind.Kind.TheVariants.{U8, U16, U32, U64}
use Rattle.gj_base.specs.declared.kind.Op.{Op}
use Rattle.gj_base.specs.declared.kind.Op.TheVariants as operator
use Rattle.go_const.specs.declared.constant.Const.{Const}
use Rattle.go_const.specs.declared.constant.Const.TheVariants as form
use Rattle.go_const.specs.declared.constant.Basic.{Basic}
use Rattle.go_const.specs.declared.constant.Basic.TheVariants as basic
use Rattle.go_const.specs.declared.constant.ConstRefusal.{ConstRefusal}
use Rattle.go_const.specs.declared.constant.ConstRefusal.TheVariants.{Code, NoMemory}
use Rattle.go_const.specs.Representability.{greatest, IsHeld, range_code}
use Rattle.go_const.specs.Bits.{IsBitwise, differ, clears}

-- ---- whole numbers

-- "The integer quotient q = x / y and remainder r = x % y satisfy x = q*y + r and |r| < |y|, with x / y
-- truncated towards zero."
pub record IsDivision (x y q r : ℤ) : Type 0 where
  pub whole : (q *ℤ y) +ℤ r ≡ x
  pub smaller : unsigned_abs r < unsigned_abs y
  pub truncated : unsigned_abs q * unsigned_abs y ≤ unsigned_abs x

-- z is x op y
abbrev pub IsArithmetic : Op → ℤ → ℤ → ℤ → Type 0
IsArithmetic operator.Add x y z = z ≡ x +ℤ y
IsArithmetic operator.Sub x y z = z ≡ x -ℤ y
IsArithmetic operator.Mul x y z = z ≡ x *ℤ y
IsArithmetic operator.Div x y z = (r : ℤ) × IsDivision x y z r
IsArithmetic operator.Rem x y z = (q : ℤ) × IsDivision x y q z
IsArithmetic operator.And x y z = IsBitwise min x y z
IsArithmetic operator.Or x y z = IsBitwise max x y z
IsArithmetic operator.Xor x y z = IsBitwise differ x y z
IsArithmetic operator.AndNot x y z = IsBitwise clears x y z
IsArithmetic _ x y z = ⊥

-- what `^` differs from: every bit of an unsigned kind, else -1; untyped numbers count as signed
abbrev pub all_ones : Option Kind → ℤ
all_ones (Some U8) = greatest U8
all_ones (Some U16) = greatest U16
all_ones (Some U32) = greatest U32
all_ones (Some U64) = greatest U64
all_ones _ = negsuc 0

-- z is op x: `+` gives the number, `-` its negation, `^` all ones but where x has one
abbrev pub IsUnaryNumber : Op → Option Kind → ℤ → ℤ → Type 0
IsUnaryNumber operator.Plus kind x z = z ≡ x
IsUnaryNumber operator.Neg kind x z = z ≡ neg_ℤ x
IsUnaryNumber operator.Compl kind x z = IsBitwise differ (all_ones kind) x z
IsUnaryNumber _ kind x z = ⊥

-- z is x shifted by n: x times 2^n, or the greatest whole number that is at most x by 2^n
abbrev pub IsShift : Op → ℤ → ℕ → ℤ → Type 0
IsShift operator.Shl x n z = z ≡ x *ℤ pos (2 ^ n)
IsShift operator.Shr x n z = ((z *ℤ pos (2 ^ n)) ≤ℤ x) × (x <ℤ ((z +ℤ pos 1) *ℤ pos (2 ^ n)))
IsShift _ x n z = ⊥

-- ---- comparisons

abbrev pub ComparesNumbers : Op → ℤ → ℤ → Type 0
ComparesNumbers operator.Eq x y = x ≡ y
ComparesNumbers operator.Ne x y = x ≢ y
ComparesNumbers operator.Lt x y = x <ℤ y
ComparesNumbers operator.Le x y = x ≤ℤ y
ComparesNumbers operator.Gt x y = y <ℤ x
ComparesNumbers operator.Ge x y = y ≤ℤ x
ComparesNumbers _ x y = ⊥

-- "Comparison operators": by the first byte that differs; a front of a text is less than it
abbrev pub ComparesTexts : Op → List ℕ → List ℕ → Type 0
ComparesTexts operator.Eq x y = x ≡ y
ComparesTexts operator.Ne x y = x ≢ y
ComparesTexts operator.Lt x y = slice_cmp nat_cmp x y ≡ Less
ComparesTexts operator.Le x y = slice_cmp nat_cmp x y ≢ Greater
ComparesTexts operator.Gt x y = slice_cmp nat_cmp x y ≡ Greater
ComparesTexts operator.Ge x y = slice_cmp nat_cmp x y ≢ Less
ComparesTexts _ x y = ⊥

-- what `&&`, `||`, `==` and `!=` say of truth values
abbrev pub ComparesTruth : Op → Bool → Bool → Type 0
ComparesTruth operator.AndThen x y = IsTrue x × IsTrue y
ComparesTruth operator.OrElse x y = IsTrue x ⊎ IsTrue y
ComparesTruth operator.Eq x y = x ≡ y
ComparesTruth operator.Ne x y = x ≢ y
ComparesTruth _ x y = ⊥

-- ---- constants

-- A typed number is an integer constant. Of untyped operands "the result is of the operand's kind that
-- appears later in this list: integer, rune".
abbrev pub numeral : Option Kind → Bool → ℤ → Const
numeral None true z = form.Rune z
numeral _ _ z = form.Int z

abbrev pub IsArithmeticConst : Op → Option Kind → Bool → ℤ → ℤ → Const → Type 0
IsArithmeticConst op kind rune x y c = (z : ℤ) × (c ≡ numeral kind rune z) × IsArithmetic op x y z

abbrev pub IsComparisonConst : Type 0 → Const → Type 0
IsComparisonConst P c = (r : Bool) × (c ≡ form.Bool r) × (IsTrue r ↔ P)

abbrev pub is_comparison : Op → Bool
is_comparison operator.Eq = true
is_comparison operator.Ne = true
is_comparison operator.Lt = true
is_comparison operator.Le = true
is_comparison operator.Gt = true
is_comparison operator.Ge = true
is_comparison _ = false

abbrev pub is_arithmetic : Op → Bool
is_arithmetic operator.Add = true
is_arithmetic operator.Sub = true
is_arithmetic operator.Mul = true
is_arithmetic operator.Div = true
is_arithmetic operator.Rem = true
is_arithmetic operator.And = true
is_arithmetic operator.Or = true
is_arithmetic operator.Xor = true
is_arithmetic operator.AndNot = true
is_arithmetic _ = false

-- the operators of truth values
abbrev pub is_logical : Op → Bool
is_logical operator.AndThen = true
is_logical operator.OrElse = true
is_logical operator.Eq = true
is_logical operator.Ne = true
is_logical _ = false

abbrev pub is_shift : Op → Bool
is_shift operator.Shl = true
is_shift operator.Shr = true
is_shift _ = false

abbrev pub is_sign : Op → Bool
is_sign operator.Plus = true
is_sign operator.Neg = true
is_sign operator.Compl = true
is_sign _ = false

abbrev pub IsNumberResult : Op → Option Kind → Bool → ℤ → ℤ → Const → Type 0
IsNumberResult op kind rune x y c =
    (IsTrue (is_comparison op) × IsComparisonConst (ComparesNumbers op x y) c)
    ⊎ (IsTrue (is_arithmetic op) × IsArithmeticConst op kind rune x y c)

abbrev pub IsTextResult : Op → List ℕ → List ℕ → Const → Type 0
IsTextResult operator.Add x y c = c ≡ form.Text (x ++ y)
IsTextResult op x y c = IsComparisonConst (ComparesTexts op x y) c

-- c is the exact value of op x
abbrev pub IsUnary : Op → Option Kind → Const → Const → Type 0
IsUnary op kind (form.Bool x) c = (r : Bool) × (c ≡ form.Bool r) × (IsTrue r ↔ (x ≡ false))
IsUnary op kind (form.Int x) c = (z : ℤ) × (c ≡ numeral kind false z) × IsUnaryNumber op kind x z
IsUnary op kind (form.Rune x) c = (z : ℤ) × (c ≡ numeral kind true z) × IsUnaryNumber op kind x z
IsUnary op kind (form.Text x) c = ⊥

-- c is the exact value of x op y
abbrev pub IsBinary : Op → Option Kind → Const → Const → Const → Type 0
IsBinary op kind (form.Bool x) (form.Bool y) c = IsComparisonConst (ComparesTruth op x y) c
IsBinary op kind (form.Int x) (form.Int y) c = IsNumberResult op kind false x y c
IsBinary op kind (form.Int x) (form.Rune y) c = IsNumberResult op kind true x y c
IsBinary op kind (form.Rune x) (form.Int y) c = IsNumberResult op kind true x y c
IsBinary op kind (form.Rune x) (form.Rune y) c = IsNumberResult op kind true x y c
IsBinary op kind (form.Text x) (form.Text y) c = IsTextResult op x y c
IsBinary op kind _ _ c = ⊥

-- the whole number of a constant
abbrev pub whole_of : Const → Option ℤ
whole_of (form.Int x) = Some x
whole_of (form.Rune x) = Some x
whole_of _ = None

-- whether a constant is an untyped rune
abbrev pub is_rune : Const → Bool
is_rune (form.Rune x) = true
is_rune _ = false

abbrev pub IsShiftBy : Op → Option Kind → Bool → ℤ → Option ℤ → Const → Type 0
IsShiftBy op kind rune x (Some (pos n)) c = (z : ℤ) × (c ≡ numeral kind rune z) × IsShift op x n z
IsShiftBy op kind rune x _ c = ⊥

-- c is the exact value of x shifted by the count: of the left operand's kind (own for a rune)
abbrev pub IsShiftResult : Op → Option Kind → Const → Const → Const → Type 0
IsShiftResult op kind (form.Int x) count c = IsShiftBy op kind false x (whole_of count) c
IsShiftResult op kind (form.Rune x) count c = IsShiftBy op kind true x (whole_of count) c
IsShiftResult op kind _ count c = ⊥

-- "a string containing the UTF-8 representation of the integer. Values outside the range of valid
-- Unicode code points are converted to "\uFFFD"."
abbrev pub IsTextOf : ℤ → List ℕ → Type 0
IsTextOf x t = ((n : ℕ) × (x ≡ pos n) × IsScalar n × (t ≡ encode_utf8 n))
    ⊎ (((n : ℕ) → x ≡ pos n → ¬ IsScalar n) × (t ≡ encode_utf8 0xFFFD))

-- c is x as a constant of the type
abbrev pub IsConversion : Const → Basic → Const → Type 0
IsConversion (form.Bool x) basic.Bool c = c ≡ form.Bool x
IsConversion (form.Text x) basic.Str c = c ≡ form.Text x
IsConversion (form.Int x) (basic.Int kind) c = c ≡ form.Int x
IsConversion (form.Rune x) (basic.Int kind) c = c ≡ form.Int x
IsConversion (form.Int x) basic.Str c = (t : List ℕ) × (c ≡ form.Text t) × IsTextOf x t
IsConversion (form.Rune x) basic.Str c = (t : List ℕ) × (c ≡ form.Text t) × IsTextOf x t
IsConversion _ _ c = ⊥

-- ---- which operators the forms have

abbrev pub IsNot : Op → Type 0
IsNot operator.Not = Unit {0}
IsNot _ = ⊥

-- `!` on truth values, the signs and `^` on whole numbers
abbrev pub HasUnary : Op → Const → Type 0
HasUnary op (form.Bool x) = IsNot op
HasUnary op (form.Int x) = IsTrue (is_sign op)
HasUnary op (form.Rune x) = IsTrue (is_sign op)
HasUnary op (form.Text x) = ⊥

abbrev pub number_has : Op → Bool
number_has op = is_arithmetic op || is_comparison op

abbrev pub text_has : Op → Bool
text_has operator.Add = true
text_has op = is_comparison op

abbrev pub HasTruth : Op → Const → Type 0
HasTruth op (form.Bool y) = IsTrue (is_logical op)
HasTruth op _ = ⊥

abbrev pub HasNumber : Op → Const → Type 0
HasNumber op (form.Int y) = IsTrue (number_has op)
HasNumber op (form.Rune y) = IsTrue (number_has op)
HasNumber op _ = ⊥

abbrev pub HasText : Op → Const → Type 0
HasText op (form.Text y) = IsTrue (text_has op)
HasText op _ = ⊥

-- both truth values, both whole numbers, or both texts
abbrev pub HasBinary : Op → Const → Const → Type 0
HasBinary op (form.Bool x) y = HasTruth op y
HasBinary op (form.Int x) y = HasNumber op y
HasBinary op (form.Rune x) y = HasNumber op y
HasBinary op (form.Text x) y = HasText op y

-- whole numbers on both sides of a shift
abbrev pub IsWhole : Const → Type 0
IsWhole (form.Int x) = Unit {0}
IsWhole (form.Rune x) = Unit {0}
IsWhole _ = ⊥

abbrev pub HasShift : Op → Const → Const → Type 0
HasShift op x count = IsTrue (is_shift op) × IsWhole x × IsWhole count

abbrev pub HasNumberTo : Basic → Type 0
HasNumberTo (basic.Int kind) = Unit {0}
HasNumberTo basic.Str = Unit {0}
HasNumberTo basic.Bool = ⊥

-- whole numbers go to integer types and to strings, anything else stays what it is
abbrev pub HasConversion : Const → Basic → Type 0
HasConversion (form.Bool x) basic.Bool = Unit {0}
HasConversion (form.Text x) basic.Str = Unit {0}
HasConversion (form.Int x) to = HasNumberTo to
HasConversion (form.Rune x) to = HasNumberTo to
HasConversion _ _ = ⊥

-- ---- which fault

-- division by a zero of whole numbers
abbrev pub IsZeroDivision : Op → Const → Type 0
IsZeroDivision operator.Div y = whole_of y ≡ Some (pos 0)
IsZeroDivision operator.Rem y = whole_of y ≡ Some (pos 0)
IsZeroDivision _ y = ⊥

-- the exact value is there, and its range doesn't hold it
abbrev pub IsPast : (Const → Type 0) → Option Kind → ℕ → Type 0
IsPast exact kind code = (code ≡ range_code kind) × ((c : Const) × exact c × ¬ IsHeld kind c)

abbrev pub UnaryFault : Op → Option Kind → Const → ConstRefusal → Type 0
UnaryFault op kind x (Code n) = IsPast (IsUnary op kind x) kind n
UnaryFault op kind x NoMemory = ⊥

abbrev pub IsAdd : Op → Type 0
IsAdd operator.Add = Unit {0}
IsAdd _ = ⊥

abbrev pub TakesText : Op → Const → Type 0
TakesText op (form.Text y) = IsAdd op
TakesText op _ = ⊥

-- only the concatenation of texts takes memory
abbrev pub TakesMemory : Op → Const → Const → Type 0
TakesMemory op (form.Text x) y = TakesText op y
TakesMemory op _ y = ⊥

abbrev pub BinaryFault : Op → Option Kind → Const → Const → ConstRefusal → Type 0
BinaryFault op kind x y (Code n) = ((n ≡ 30) × IsZeroDivision op y) ⊎ IsPast (IsBinary op kind x y) kind n
BinaryFault op kind x y NoMemory = TakesMemory op x y

abbrev pub IsNegative : Option ℤ → Type 0
IsNegative (Some (negsuc n)) = Unit {0}
IsNegative _ = ⊥

abbrev pub ShiftFault : Op → Option Kind → Const → Const → ConstRefusal → Type 0
ShiftFault op kind x count (Code n) = ((n ≡ 33) × IsNegative (whole_of count)) ⊎ IsPast (IsShiftResult op kind x count) kind n
ShiftFault op kind x count NoMemory = ⊥

abbrev pub range_of : Basic → Option Kind
range_of (basic.Int kind) = Some kind
range_of _ = None

-- only texts take memory
abbrev pub IsStr : Basic → Type 0
IsStr basic.Str = Unit {0}
IsStr _ = ⊥

abbrev pub ConversionFault : Const → Basic → ConstRefusal → Type 0
ConversionFault x to (Code n) = IsPast (IsConversion x to) (range_of to) n
ConversionFault x to NoMemory = IsStr to
