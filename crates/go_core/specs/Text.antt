-- Go specification (as of Go 1.17), "String types", "Conversions to and from a string type", "For statements":
-- bytes and runes. own: a byte that begins no character is U+FFFD, one byte wide.
use Rattle.std.specs.Prelude.{ℕ, zero, suc, ◌+◌, ◌-◌, ◌*◌, ◌/◌, ◌%◌, ℤ, pos, negsuc, List, [], ◌∷◌, ◌++◌, Bool, true, false, ◌&&◌, ◌||◌, if◌then◌else◌, nat_lt, nat_le, ◌==◌, decimal, codes, map}
use Rattle.go_core.specs.Memory.{Scalar, truth, whole, text, Value}

-- a character with its width in bytes
pub record Rune : Type 0 where
  pub code : ℕ
  pub width : ℕ

abbrev pub bad_byte : Rune
bad_byte = record { code = 65533; width = 1 }

abbrev pub is_between : ℕ → ℕ → ℕ → Bool
is_between low high b = nat_le low b && nat_le b high

-- "Rune literals": surrogate halves and what is above 0x10ffff are no characters
abbrev pub is_character : ℕ → Bool
is_character code = nat_lt code 55296 || is_between 57344 1114111 code

-- two bytes, from 0x80 on
abbrev pub two_bytes : ℕ → List ℕ → Rune
two_bytes a (b ∷ bs) =
    if is_between 128 191 b then record { code = (a - 192) * 64 + (b - 128); width = 2 } else bad_byte
two_bytes a [] = bad_byte

abbrev pub checked : ℕ → ℕ → ℕ → Rune
checked least code width =
    if nat_le least code && is_character code then record { code = code; width = width } else bad_byte

abbrev pub three_bytes : ℕ → List ℕ → Rune
three_bytes a (b ∷ c ∷ bs) =
    if is_between 128 191 b && is_between 128 191 c
    then checked 2048 ((a - 224) * 4096 + (b - 128) * 64 + (c - 128)) 3
    else bad_byte
three_bytes a bs = bad_byte

abbrev pub four_bytes : ℕ → List ℕ → Rune
four_bytes a (b ∷ c ∷ d ∷ bs) =
    if is_between 128 191 b && is_between 128 191 c && is_between 128 191 d
    then checked 65536 ((a - 240) * 262144 + (b - 128) * 4096 + (c - 128) * 64 + (d - 128)) 4
    else bad_byte
four_bytes a bs = bad_byte

-- the character that begins with this byte and goes on with these
abbrev pub rune_of : ℕ → List ℕ → Rune
rune_of a bs =
    if nat_lt a 128 then record { code = a; width = 1 }
    else (if is_between 194 223 a then two_bytes a bs
    else (if is_between 224 239 a then three_bytes a bs
    else (if is_between 240 244 a then four_bytes a bs else bad_byte)))

-- UTF-8 of a number that is a character
abbrev pub encoded : ℕ → List ℕ
encoded code =
    if nat_lt code 128 then code ∷ []
    else (if nat_lt code 2048 then (192 + code / 64) ∷ (128 + code % 64) ∷ []
    else (if nat_lt code 65536 then (224 + code / 4096) ∷ (128 + code / 64 % 64) ∷ (128 + code % 64) ∷ []
    else (240 + code / 262144) ∷ (128 + code / 4096 % 64) ∷ (128 + code / 64 % 64) ∷ (128 + code % 64) ∷ []))

-- "Conversions to and from a string type": of a number that is no character, U+FFFD
abbrev pub encoded_number : ℤ → List ℕ
encoded_number (pos code) = if is_character code then encoded code else encoded 65533
encoded_number (negsuc n) = encoded 65533

-- the characters of a text, through so many bytes that belong to the one before
abbrev pub runes_after : ℕ → List ℕ → List ℕ
runes_after n [] = []
runes_after (suc n) (b ∷ bs) = runes_after n bs
runes_after zero (b ∷ bs) = let r = rune_of b bs in r.code ∷ runes_after (r.width - 1) bs

abbrev pub runes : List ℕ → List ℕ
runes bs = runes_after 0 bs

-- "Comparison operators": strings are ordered by their bytes
abbrev pub text_less : List ℕ → List ℕ → Bool
text_less [] [] = false
text_less [] (y ∷ ys) = true
text_less (x ∷ xs) [] = false
text_less (x ∷ xs) (y ∷ ys) = if x == y then text_less xs ys else nat_lt x y

-- ---- what `print` writes of a value

abbrev pub number_text : ℤ → List ℕ
number_text (pos n) = decimal n
number_text (negsuc n) = 45 ∷ decimal (suc n)

abbrev pub truth_text : Bool → List ℕ
truth_text true = codes "true"
truth_text false = codes "false"

abbrev pub scalar_text : Scalar → List ℕ
scalar_text (truth b) = truth_text b
scalar_text (whole n) = number_text n
scalar_text (text bytes) = bytes
scalar_text x = []

abbrev pub value_text : Value → List ℕ
value_text [] = []
value_text (x ∷ xs) = scalar_text x

abbrev pub texts_of : List Value → List (List ℕ)
texts_of vs = map value_text vs

-- the operands after the first, each after a space, and the line's end
abbrev pub rest_of_line : List (List ℕ) → List ℕ
rest_of_line [] = 10 ∷ []
rest_of_line (t ∷ ts) = 32 ∷ t ++ rest_of_line ts

-- "Bootstrapping": `println` puts a space between operands, and ends the line
abbrev pub line_of : List (List ℕ) → List ℕ
line_of [] = 10 ∷ []
line_of (t ∷ ts) = t ++ rest_of_line ts

-- `print` puts nothing between its operands
abbrev pub joined : List (List ℕ) → List ℕ
joined [] = []
joined (t ∷ ts) = t ++ joined ts

abbrev pub output_of : Bool → List Value → List ℕ
output_of true vs = line_of (texts_of vs)
output_of false vs = joined (texts_of vs)
