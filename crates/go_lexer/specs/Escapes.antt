-- Go specification (as of Go 1.17), "Rune literals": what a backslash begins.
use Rattle.std.specs.Prelude.{◌≡◌, ◌<◌, ℕ, Bool, true, false, List, ◌+◌, ◌-◌, ◌*◌, ◌==◌, nat_lt, if◌then◌else◌, Option, Some, None}
use Rattle.std.specs.Char.{IsScalar}
use Rattle.go_lexer.specs.Chars.{byte_at, is_between, scalar}
use Rattle.go_lexer.specs.declared.escape.Escape.{Escape}

-- the value of a digit, and 16 for every other byte
unfoldable pub digit_value : ℕ → ℕ
digit_value b =
    if is_between 48 57 b then b - 48
    else (if is_between 97 102 b then b - 87
    else (if is_between 65 70 b then b - 55
    else 16))

-- two parts of a number, the first one above the second
abbrev pub joined : ℕ → Option ℕ → Option ℕ → Option ℕ
joined base (Some high) (Some low) = Some (high * base + low)
joined base (Some high) None = None
joined base None low = None

-- a digit of this base
abbrev pub digit : ℕ → ℕ → Option ℕ
digit base b = if nat_lt (digit_value b) base then Some (digit_value b) else None

-- two hexadecimal digits at a place
unfoldable pub two_digits : List ℕ → ℕ → Option ℕ
two_digits text at = joined 16 (digit 16 (byte_at text at)) (digit 16 (byte_at text (at + 1)))

-- four of them
unfoldable pub four_digits : List ℕ → ℕ → Option ℕ
four_digits text at = joined 256 (two_digits text at) (two_digits text (at + 2))

-- eight of them
unfoldable pub eight_digits : List ℕ → ℕ → Option ℕ
eight_digits text at = joined 65536 (four_digits text at) (four_digits text (at + 4))

-- three octal digits at a place
unfoldable pub three_octal_digits : List ℕ → ℕ → Option ℕ
three_octal_digits text at =
    joined 8 (joined 8 (digit 8 (byte_at text at)) (digit 8 (byte_at text (at + 1)))) (digit 8 (byte_at text (at + 2)))

-- the byte that a letter stands for after a backslash
unfoldable pub simple_value : ℕ → ℕ → Option ℕ
simple_value quote b =
    if b == 97 then Some 7
    else (if b == 98 then Some 8
    else (if b == 102 then Some 12
    else (if b == 110 then Some 10
    else (if b == 114 then Some 13
    else (if b == 116 then Some 9
    else (if b == 118 then Some 11
    else (if b == 92 then Some 92
    else (if b == quote then Some quote
    else None))))))))

-- an escape of so many bytes with this value, of a byte or of a character, where the value is there and in range
abbrev pub escape_where : (ℕ → Bool) → ℕ → Bool → Option ℕ → Option Escape
escape_where test width is_byte None = None
escape_where test width is_byte (Some value) = if test value then Some (record { width = width; value = value; is_byte = is_byte }) else None

abbrev pub is_byte_value : ℕ → Bool
is_byte_value value = nat_lt value 256

-- the escape of a letter, an octal or a hexadecimal byte, or a code point, where the byte after the backslash is no letter of the first kind
unfoldable pub numeric_escape : List ℕ → Option Escape
numeric_escape text =
    let b = byte_at text 1 in
    if b == 120 then escape_where is_byte_value 4 true (two_digits text 2)
    else (if b == 117 then escape_where scalar 6 false (four_digits text 2)
    else (if b == 85 then escape_where scalar 10 false (eight_digits text 2)
    else escape_where is_byte_value 4 true (three_octal_digits text 1)))

abbrev pub escape_or : Option ℕ → List ℕ → Option Escape
escape_or (Some value) text = Some (record { width = 2; value = value; is_byte = true })
escape_or None text = numeric_escape text

-- the escape that begins the text with its backslash, within literals of this quote
unfoldable pub escape_at : ℕ → List ℕ → Option Escape
escape_at quote text = escape_or (simple_value quote (byte_at text 1)) text

-- the value is a code point that is no surrogate, a byte's is below 256, and the escape has a byte
pub record IsRight (e : Escape) : Type 0 where
  pub character : IsScalar e.value
  pub byte : e.is_byte ≡ true → e.value < 256
  pub some : 0 < e.width
