-- Go specification (as of Go 1.17), "Integer literals", read from left to right.
use Rattle.std.specs.Prelude.{ℕ, Bool, true, false, List, [], ◌∷◌, ◌+◌, ◌*◌, ◌^◌, ◌==◌, ◌||◌, nat_lt, if◌then◌else◌, Option, Some, None, drop, min}
use Rattle.go_lexer.specs.Escapes.{digit_value}
use Rattle.go_lexer.specs.Runs.{run_len}
use Rattle.go_lexer.specs.declared.run.Class.{Class}
use Rattle.go_lexer.specs.declared.run.Class.TheVariants.{Decimal, Hex}

-- 2^127
abbrev pub limit : ℕ
limit = 2 ^ 127

-- the base that a letter after `0` gives; 0 where it is no such letter
abbrev pub base_of_letter : ℕ → ℕ
base_of_letter b =
    if b == 120 || b == 88 then 16
    else (if b == 98 || b == 66 then 2
    else (if b == 111 || b == 79 then 8
    else 0))

-- the base of a number that begins with these two bytes
unfoldable pub base_of : ℕ → ℕ → ℕ
base_of a b = if a == 48 then (if base_of_letter b == 0 then 8 else base_of_letter b) else 10

-- how many bytes stand before its digits
unfoldable pub prefix_of : ℕ → ℕ → ℕ
prefix_of a b = if a == 48 then (if base_of_letter b == 0 then 0 else 2) else 0

abbrev pub class_of : ℕ → Class
class_of base = if base == 16 then Hex else Decimal

-- how many bytes the digits of a number have, `_` and wrong digits included
abbrev pub digits_len : ℕ → ℕ → List ℕ → ℕ
digits_len base over text = run_len (class_of base) (drop over text)

-- a value with one digit more, cut at 2^127
abbrev pub grown : ℕ → ℕ → ℕ → ℕ
grown base value d = min (value * base + d) limit

-- the value of digits, cut at 2^127; `sep` says whether a `_` may stand next, and `done` whether the
-- digits may end
abbrev pub value_from : ℕ → ℕ → Bool → Bool → List ℕ → Option ℕ
value_from base value sep done [] = if done then Some value else None
value_from base value sep done (b ∷ text) =
    if b == 95 then (if sep then value_from base value false false text else None)
    else (if nat_lt (digit_value b) base then value_from base (grown base value (digit_value b)) true true text else None)

-- whether a byte makes a number a float or an imaginary number: a point, an exponent or `i`
unfoldable pub is_beyond : ℕ → Bool
is_beyond b = b == 46 || b == 101 || b == 69 || b == 112 || b == 80 || b == 105
