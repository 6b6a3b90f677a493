-- Go specification (as of Go 1.17), "Arithmetic operators", "Integer operators", "Integer overflow": integers
-- of a kind, which wrap.
use Rattle.std.specs.Prelude.{ℕ, zero, ◌-◌, ◌/◌, ◌%◌, ◌^◌, ℤ, pos, negsuc, ◌+ℤ◌, ◌-ℤ◌, ◌*ℤ◌, neg_ℤ, int_lt, int_div, int_rem, Bool, true, false, not, if◌then◌else◌, nat_lt, Option, Some, None, bit_and, bit_or, bit_xor}
use Rattle.gj_base.specs.declared.kind.Kind.{Kind}
use Rattle.gj_base.specs.declared.kind.Kind.TheVariants.{I8, I16, I32, I64, U8, U16, U32, U64}
use Rattle.gj_base.specs.declared.kind.Op.{Op}
use Rattle.gj_base.specs.declared.kind.Op.TheVariants as operator

abbrev pub width : Kind → ℕ
width I8 = 8
width U8 = 8
width I16 = 16
width U16 = 16
width I32 = 32
width U32 = 32
width I64 = 64
width U64 = 64

abbrev pub is_signed : Kind → Bool
is_signed I8 = true
is_signed I16 = true
is_signed I32 = true
is_signed I64 = true
is_signed _ = false

-- the least number that is not negative and differs by a multiple of m
abbrev pub residue : ℕ → ℤ → ℕ
residue m (pos n) = n % m
residue m (negsuc n) = m - 1 - n % m

-- bits of a number without sign, read as a signed one of so many bits
abbrev pub as_signed : ℕ → ℕ → ℤ
as_signed bits n = if nat_lt n (2 ^ (bits - 1)) then pos n else neg_ℤ (pos (2 ^ bits - n))

-- "Integer overflow": modulo 2^n, in two's complement where the kind is signed
abbrev pub wrapped : Kind → ℤ → ℤ
wrapped kind n =
    let bits = residue (2 ^ width kind) n in
    if is_signed kind then as_signed (width kind) bits else pos bits

abbrev pub bits_of : Kind → ℤ → ℕ
bits_of kind n = residue (2 ^ width kind) n

-- the quotient is truncated towards zero; none for a zero divisor
abbrev pub quotient : ℤ → ℤ → Option ℤ
quotient x (pos zero) = None
quotient x y = Some (int_div x y)

-- the remainder has the sign of the dividend
abbrev pub remainder : ℤ → ℤ → Option ℤ
remainder x (pos zero) = None
remainder x y = Some (int_rem x y)

-- the greatest whole number that is at most n by 2^k
abbrev pub shifted_down : ℤ → ℕ → ℤ
shifted_down (pos n) k = pos (n / 2 ^ k)
shifted_down (negsuc n) k = negsuc (n / 2 ^ k)

-- what is left where each bit has been shifted out
abbrev pub all_sign : ℤ → ℤ
all_sign (pos n) = pos 0
all_sign (negsuc n) = negsuc 0

abbrev pub shift_left : Kind → ℤ → ℕ → ℤ
shift_left kind x count = if nat_lt count (width kind) then x *ℤ pos (2 ^ count) else pos 0

abbrev pub shift_right : Kind → ℤ → ℕ → ℤ
shift_right kind x count = if nat_lt count (width kind) then shifted_down x count else all_sign x

-- "Operators": no negative shift count
abbrev pub shifted : (ℤ → ℕ → ℤ) → ℤ → ℤ → Option ℤ
shifted shift x (pos count) = Some (shift x count)
shifted shift x (negsuc n) = None

-- "Arithmetic operators", before it wraps; none where the step panics
abbrev pub computed : Op → Kind → ℤ → ℤ → Option ℤ
computed operator.Add kind x y = Some (x +ℤ y)
computed operator.Sub kind x y = Some (x -ℤ y)
computed operator.Mul kind x y = Some (x *ℤ y)
computed operator.Div kind x y = quotient x y
computed operator.Rem kind x y = remainder x y
computed operator.And kind x y = Some (pos (bit_and (bits_of kind x) (bits_of kind y)))
computed operator.Or kind x y = Some (pos (bit_or (bits_of kind x) (bits_of kind y)))
computed operator.Xor kind x y = Some (pos (bit_xor (bits_of kind x) (bits_of kind y)))
computed operator.AndNot kind x y = Some (pos (bit_and (bits_of kind x) (2 ^ width kind - 1 - bits_of kind y)))
computed operator.Shl kind x y = shifted (shift_left kind) x y
computed operator.Shr kind x y = shifted (shift_right kind) x y
computed _ kind x y = None

-- which panic it is where there is no value: a shift count is negative, or a divisor is zero
abbrev pub is_shift : Op → Bool
is_shift operator.Shl = true
is_shift operator.Shr = true
is_shift _ = false

-- `+x`, `-x`, `^x`
abbrev pub unary_of : Op → ℤ → ℤ
unary_of operator.Neg x = neg_ℤ x
unary_of operator.Compl x = neg_ℤ x -ℤ pos 1
unary_of _ x = x

-- "Comparison operators"
abbrev pub in_order : Op → Bool → Bool → Bool
in_order operator.Lt below above = below
in_order operator.Le below above = not above
in_order operator.Gt below above = above
in_order operator.Ge below above = not below
in_order _ below above = false

abbrev pub numbers_in_order : Op → ℤ → ℤ → Bool
numbers_in_order op x y = in_order op (int_lt x y) (int_lt y x)
