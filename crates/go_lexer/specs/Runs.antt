-- Runs: how far a text goes on in one way.
use Rattle.std.specs.Prelude.{ℕ, zero, suc, Bool, List, [], ◌∷◌, ◌==◌, ◌&&◌, ◌||◌, nat_lt, if◌then◌else◌, not, length, Option, Some, None}
use Rattle.go_lexer.specs.Chars.{byte_at, is_between, char_width, name_width}
use Rattle.go_lexer.specs.Escapes.{escape_at}
use Rattle.go_lexer.specs.declared.escape.Escape.{Escape}
use Rattle.go_lexer.specs.declared.run.Class.{Class}
use Rattle.go_lexer.specs.declared.run.Class.TheVariants as class

abbrev pub is_decimal : ℕ → Bool
is_decimal b = is_between 48 57 b

-- a hexadecimal digit
abbrev pub is_hex : ℕ → Bool
is_hex b = is_decimal b || is_between 97 102 b || is_between 65 70 b

abbrev pub one_where : Bool → ℕ
one_where b = if b then 1 else 0

-- in a literal of this quote: a byte that may stand there, or a backslash with the byte after it
unfoldable pub quoted_width : ℕ → List ℕ → ℕ
quoted_width quote text =
    let b = byte_at text 0 in
    if b == quote then 0
    else (if b == 10 then 0
    else (if b == 92 then (if nat_lt 1 (length text) then (if byte_at text 1 == 10 then 0 else 2) else 0)
    else 1))

abbrev pub width_of_escape : Option Escape → ℕ
width_of_escape None = 0
width_of_escape (Some e) = e.width

-- in a literal of this quote: a byte, or an escape
unfoldable pub escaped_width : ℕ → List ℕ → ℕ
escaped_width quote text = if byte_at text 0 == 92 then width_of_escape (escape_at quote text) else 1

-- how many bytes a run of this class takes at the front of a text that isn't empty; 0 where it stops
unfoldable pub width_of : Class → List ℕ → ℕ
width_of class.Name text = name_width text
width_of class.Decimal text = one_where (is_decimal (byte_at text 0) || byte_at text 0 == 95)
width_of class.Hex text = one_where (is_hex (byte_at text 0) || byte_at text 0 == 95)
width_of (class.Quoted quote) text = quoted_width quote text
width_of (class.Escaped quote) text = escaped_width quote text
width_of class.Raw text = one_where (not (byte_at text 0 == 96))
width_of class.Line text = one_where (not (byte_at text 0 == 10))
width_of class.General text = one_where (not (byte_at text 0 == 42 && byte_at text 1 == 47))
width_of class.Utf8 text = char_width text

-- how many bytes a run has after the bytes that are passed over; `width` is what it takes at its front
abbrev pub run_after : (List ℕ → ℕ) → ℕ → List ℕ → ℕ
run_after width over [] = 0
run_after width (suc over) (b ∷ text) = suc (run_after width over text)
run_after width zero (b ∷ text) = elim (width (b ∷ text)) [ zero ↦ 0 | suc n ↦ suc (run_after width n text) ]

-- how many bytes the run of this class has that begins the text
unfoldable pub run_len : Class → List ℕ → ℕ
run_len class text = run_after (width_of class) 0 text
