-- Kinds of integers. Go specification, "Numeric types".
use Rattle.std.specs.Prelude.{ℕ, Bool, true, false, if◌then◌else◌, ◌&&◌, nat_le, nat_lt}
use Rattle.gj_base.specs.declared.kind.Kind.{Kind}
use Rattle.gj_base.specs.declared.kind.Kind.TheVariants.{I8, I16, I32, I64, U8, U16, U32, U64}

abbrev pub has_sign : Kind → Bool
has_sign I8 = true
has_sign I16 = true
has_sign I32 = true
has_sign I64 = true
has_sign U8 = false
has_sign U16 = false
has_sign U32 = false
has_sign U64 = false

-- 64 bits: two halves
abbrev pub has_halves : Kind → Bool
has_halves I8 = false
has_halves I16 = false
has_halves I32 = false
has_halves I64 = true
has_halves U8 = false
has_halves U16 = false
has_halves U32 = false
has_halves U64 = true

abbrev pub bits_in : Kind → ℕ
bits_in I8 = 8
bits_in I16 = 16
bits_in I32 = 32
bits_in I64 = 64
bits_in U8 = 8
bits_in U16 = 16
bits_in U32 = 32
bits_in U64 = 64

-- whether each number of a kind is one of another
abbrev pub lies_within : Kind → Kind → Bool
lies_within from to =
    if has_sign from
    then has_sign to && nat_le (bits_in from) (bits_in to)
    else (if has_sign to then nat_lt (bits_in from) (bits_in to) else nat_le (bits_in from) (bits_in to))
