-- Go specification (as of Go 1.17), "Integer literals", "Rune literals": which number a literal is.
use Rattle.std.specs.Prelude.{ℕ, ◌+◌, ◌*◌, ◌-◌, ◌==◌, ◌||◌, nat_lt, List, [], ◌∷◌, if◌then◌else◌}

-- the value of a digit: `0` to `9`, `A` to `F`, `a` to `f`
abbrev pub digit_of : ℕ → ℕ
digit_of b = if nat_lt b 58 then b - 48 else (if nat_lt b 97 then b - 55 else b - 87)

-- the value of digits after those before them; `_` counts for nothing
abbrev pub digits_from : ℕ → ℕ → List ℕ → ℕ
digits_from base n [] = n
digits_from base n (b ∷ bs) = digits_from base (if b == 95 then n else n * base + digit_of b) bs

-- after a `0`: `0x`, `0b`, `0o`, or octal digits
abbrev pub after_zero : ℕ → List ℕ → ℕ
after_zero b bs =
    if b == 120 || b == 88 then digits_from 16 0 bs
    else if b == 98 || b == 66 then digits_from 2 0 bs
    else if b == 111 || b == 79 then digits_from 8 0 bs
    else digits_from 8 0 (b ∷ bs)

-- the number that an integer literal spells
abbrev pub int_value : List ℕ → ℕ
int_value [] = 0
int_value (a ∷ []) = digit_of a
int_value (a ∷ b ∷ bs) = if a == 48 then after_zero b bs else digits_from 10 0 (a ∷ b ∷ bs)

-- own: the character of a rune literal, whose value stands in UTF-8
abbrev pub rune_value : List ℕ → ℕ
rune_value [] = 0
rune_value (a ∷ []) = a
rune_value (a ∷ b ∷ []) = (a - 192) * 64 + (b - 128)
rune_value (a ∷ b ∷ c ∷ []) = (a - 224) * 4096 + (b - 128) * 64 + (c - 128)
rune_value (a ∷ b ∷ c ∷ d ∷ bs) = (a - 240) * 262144 + (b - 128) * 4096 + (c - 128) * 64 + (d - 128)
