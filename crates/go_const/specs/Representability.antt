-- Go specification (as of Go 1.17), "Numeric types", "Representability": which values a type holds.
use Rattle.std.specs.Prelude.{ℕ, ◌-◌, ◌^◌, ℤ, pos, negsuc, ◌≤ℤ◌, Option, Some, None}
use Rattle.gj_base.specs.declared.kind.Kind.{Kind}
use Rattle.gj_base.specs.declared.kind.Kind.TheVariants.{I8, I16, I32, I64, U8, U16, U32, U64}
use Rattle.go_const.specs.declared.constant.Const.{Const}
use Rattle.go_const.specs.declared.constant.Const.TheVariants as form

-- the least value of a kind: -2^(n-1) of a signed kind of n bits
abbrev pub least : Kind → ℤ
least I8 = negsuc (2 ^ 7 - 1)
least I16 = negsuc (2 ^ 15 - 1)
least I32 = negsuc (2 ^ 31 - 1)
least I64 = negsuc (2 ^ 63 - 1)
least U8 = pos 0
least U16 = pos 0
least U32 = pos 0
least U64 = pos 0

-- the greatest value of a kind: 2^(n-1)-1 of a signed kind of n bits, 2^n-1 of an unsigned one
abbrev pub greatest : Kind → ℤ
greatest I8 = pos (2 ^ 7 - 1)
greatest I16 = pos (2 ^ 15 - 1)
greatest I32 = pos (2 ^ 31 - 1)
greatest I64 = pos (2 ^ 63 - 1)
greatest U8 = pos (2 ^ 8 - 1)
greatest U16 = pos (2 ^ 16 - 1)
greatest U32 = pos (2 ^ 32 - 1)
greatest U64 = pos (2 ^ 64 - 1)

-- own: the least and the greatest untyped whole number
abbrev pub least_untyped : ℤ
least_untyped = negsuc (2 ^ 127 - 1)

abbrev pub greatest_untyped : ℤ
greatest_untyped = pos (2 ^ 127 - 1)

-- both ends count
pub record IsBetween (low high z : ℤ) : Type 0 where
  pub above : low ≤ℤ z
  pub below : z ≤ℤ high

-- the number lies in the range of the kind, or of untyped numbers where there is none
abbrev pub Holds : Option Kind → ℤ → Type 0
Holds None z = IsBetween least_untyped greatest_untyped z
Holds (Some kind) z = IsBetween (least kind) (greatest kind) z

-- the constant is a whole number in the kind's range
abbrev pub Fits : Const → Kind → Type 0
Fits (form.Int z) kind = Holds (Some kind) z
Fits (form.Rune z) kind = Holds (Some kind) z
Fits (form.Bool b) kind = ⊥
Fits (form.Text t) kind = ⊥

-- a whole number lies in its range; truth values and texts have none
abbrev pub IsHeld : Option Kind → Const → Type 0
IsHeld kind (form.Int z) = Holds kind z
IsHeld kind (form.Rune z) = Holds kind z
IsHeld kind (form.Bool b) = Unit {0}
IsHeld kind (form.Text t) = Unit {0}

-- the fault of a number outside its range: untyped, or of a kind
abbrev pub range_code : Option Kind → ℕ
range_code None = 31
range_code (Some kind) = 32
