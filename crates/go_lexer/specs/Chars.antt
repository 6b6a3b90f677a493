-- Characters of a text in UTF-8, by Unicode's table of well-formed byte sequences (Unicode, table
-- 3-7), and letters and digits by the Go specification (as of Go 1.17), "Characters" and "Letters and
-- digits".
use Rattle.std.specs.Prelude.{ℕ, Bool, true, false, List, ◌+◌, ◌-◌, ◌*◌, ◌==◌, ◌&&◌, ◌||◌, nat_lt, nat_le, if◌then◌else◌, slice_index, Option, Some, None}
pub use lib.Utf8.{scalar}
use Rattle.ucd_category.specs.declared.GeneralCategory.{GeneralCategory}
use Rattle.ucd_category.specs.declared.GeneralCategory.TheVariants.{UppercaseLetter, LowercaseLetter, TitlecaseLetter, ModifierLetter, OtherLetter, DecimalNumber}
use Rattle.ucd_category.specs.GeneralCategory.{general_category}

-- the byte at a place, and 0 past the end
abbrev pub byte_at : List ℕ → ℕ → ℕ
byte_at text place = slice_index text place

abbrev pub is_between : ℕ → ℕ → ℕ → Bool
is_between least most b = nat_le least b && nat_le b most

-- a byte that isn't the first one of its character
abbrev pub is_tail : ℕ → Bool
is_tail b = is_between 0x80 0xBF b

-- whether the second byte may follow the first one of three
abbrev pub is_second_of_three : ℕ → ℕ → Bool
is_second_of_three a b =
    if a == 0xE0 then is_between 0xA0 0xBF b
    else (if a == 0xED then is_between 0x80 0x9F b
    else is_tail b)

-- whether the second byte may follow the first one of four
abbrev pub is_second_of_four : ℕ → ℕ → Bool
is_second_of_four a b =
    if a == 0xF0 then is_between 0x90 0xBF b
    else (if a == 0xF4 then is_between 0x80 0x8F b
    else is_tail b)

-- how many bytes the text's first character has; 0 where the text begins with none
unfoldable pub width_of_bytes : ℕ → ℕ → ℕ → ℕ → ℕ
width_of_bytes a b c d =
    if nat_lt a 0x80 then 1
    else (if nat_lt a 0xC2 then 0
    else (if nat_lt a 0xE0 then (if is_tail b then 2 else 0)
    else (if nat_lt a 0xF0 then (if is_second_of_three a b && is_tail c then 3 else 0)
    else (if nat_lt a 0xF5 then (if is_second_of_four a b && is_tail c && is_tail d then 4 else 0)
    else 0))))

abbrev pub char_width : List ℕ → ℕ
char_width text = width_of_bytes (byte_at text 0) (byte_at text 1) (byte_at text 2) (byte_at text 3)

-- the code of a character of so many bytes
unfoldable pub code_of_bytes : ℕ → ℕ → ℕ → ℕ → ℕ → ℕ
code_of_bytes width a b c d =
    if width == 1 then a
    else (if width == 2 then (a - 0xC0) * 0x40 + (b - 0x80)
    else (if width == 3 then (a - 0xE0) * 0x1000 + (b - 0x80) * 0x40 + (c - 0x80)
    else (a - 0xF0) * 0x40000 + (b - 0x80) * 0x1000 + (c - 0x80) * 0x40 + (d - 0x80)))

-- the code of the text's first character
abbrev pub char_code : List ℕ → ℕ
char_code text = code_of_bytes (char_width text) (byte_at text 0) (byte_at text 1) (byte_at text 2) (byte_at text 3)

-- "Unicode letters": category Lu, Ll, Lt, Lm or Lo
abbrev pub is_letter_category : GeneralCategory → Bool
is_letter_category UppercaseLetter = true
is_letter_category LowercaseLetter = true
is_letter_category TitlecaseLetter = true
is_letter_category ModifierLetter = true
is_letter_category OtherLetter = true
is_letter_category _ = false

-- "Unicode digits": category Nd
abbrev pub is_digit_category : GeneralCategory → Bool
is_digit_category DecimalNumber = true
is_digit_category _ = false

-- `letter = unicode_letter | "_"`
unfoldable pub is_letter : ℕ → Bool
is_letter code = (code == 95) || is_letter_category (general_category code)

-- `unicode_digit`
unfoldable pub is_digit : ℕ → Bool
is_digit code = is_digit_category (general_category code)

-- the text's first character
unfoldable pub first_char : List ℕ → Option ℕ
first_char text =
    if char_width text == 0 then None
    else (if scalar (char_code text) then Some (char_code text) else None)

-- the width of this first character where it passes the test, and else 0
abbrev pub width_where : (ℕ → Bool) → List ℕ → Option ℕ → ℕ
width_where test text None = 0
width_where test text (Some c) = if test c then char_width text else 0

-- how many bytes the letter has that begins the text; 0 where none does
unfoldable pub letter_width : List ℕ → ℕ
letter_width text = width_where is_letter text (first_char text)

-- the same of a letter or a digit
unfoldable pub name_width : List ℕ → ℕ
name_width text = width_where (λ c. is_letter c || is_digit c) text (first_char text)
