-- The rows of the faults that a text can have. `Row text k code` says of a text that begins where a
-- piece must begin: the row with this code holds k bytes after its front.
use Rattle.std.specs.Prelude.{◌≡◌, ◌≢◌, ◌<◌, ◌≤◌, ◌⊎◌, ◌+◌, ℕ, List, Bool, true, false, ◌==◌, ◌||◌, ◌&&◌, length, take, drop, Some, None}
use Rattle.go_lexer.specs.Chars.{byte_at, char_width, letter_width}
use Rattle.go_lexer.specs.Runs.{run_len, is_decimal}
use Rattle.go_lexer.specs.Numbers.{base_of, prefix_of, digits_len, value_from, is_beyond, limit}
use Rattle.go_lexer.specs.Operators.{operator_of}
use Rattle.go_lexer.specs.Kinds.{rune_width, is_blank}
use Rattle.go_lexer.specs.declared.run.Class.{Class}
use Rattle.go_lexer.specs.declared.run.Class.TheVariants.{Quoted, Escaped, Raw, Line, General, Utf8}

-- white space, a number, a rune or string literal or a semicolon begins with this byte
abbrev pub begins_other : ℕ → Bool
begins_other b = b == 10 || (is_blank b || (is_decimal b || (b == 34 || (b == 39 || (b == 96 || b == 59)))))

-- no piece begins with the text's first character
pub record BeginsNothing (text : List ℕ) : Type 0 where
  pub some : 0 < length text
  pub other : begins_other (byte_at text 0) ≡ false
  pub operator : operator_of (byte_at text 0) (byte_at text 1) (byte_at text 2) ≡ None
  pub letter : letter_width text ≡ 0

-- a literal of this quote begins the text, and the quote that ends it comes after what may stand between
pub record Closes (quote : ℕ) (class : Class) (text : List ℕ) : Type 0 where
  pub opens : byte_at text 0 ≡ quote
  pub closes : (byte_at text (run_len class (drop 1 text) + 1) == quote) ≡ true

-- such a literal begins the text, and that quote doesn't come
pub record StaysOpen (quote : ℕ) (class : Class) (text : List ℕ) : Type 0 where
  pub opens : byte_at text 0 ≡ quote
  pub stays : (byte_at text (run_len class (drop 1 text) + 1) == quote) ≡ false

-- what stands between the quotes
abbrev pub inside : Class → List ℕ → List ℕ
inside class text = take (run_len class (drop 1 text)) (drop 1 text)

-- whether `*/` comes after what may stand in the general comment that begins the text
abbrev pub comment_closes : List ℕ → Bool
comment_closes text = byte_at text (run_len General (drop 2 text) + 2) == 42 && byte_at text (run_len General (drop 2 text) + 3) == 47

-- a text of a literal or a comment begins so many bytes after the front
pub data Encloses (text : List ℕ) : ℕ → List ℕ → Type 0 where
  in_string : Closes 34 (Quoted 34) text → Encloses text 1 (inside (Quoted 34) text)
  in_rune : Closes 39 (Quoted 39) text → Encloses text 1 (inside (Quoted 39) text)
  in_raw : Closes 96 Raw text → Encloses text 1 (inside Raw text)
  in_line : byte_at text 0 ≡ 47 → byte_at text 1 ≡ 47 → Encloses text 0 (take (run_len Line text) text)
  in_general : byte_at text 0 ≡ 47 → byte_at text 1 ≡ 42 → comment_closes text ≡ true → Encloses text 0 (take (run_len General (drop 2 text) + 4) text)

-- a number begins the text, with this base, so many bytes before its digits and so many digits
pub record BeginsNumber (base over n : ℕ) (text : List ℕ) : Type 0 where
  pub digit : is_decimal (byte_at text 0) ≡ true
  pub base_is : base ≡ base_of (byte_at text 0) (byte_at text 1)
  pub over_is : over ≡ prefix_of (byte_at text 0) (byte_at text 1)
  pub digits_are : n ≡ digits_len base over text

pub data Row (text : List ℕ) : ℕ → ℕ → Type 0 where
  -- F1: none of the pieces begins with this character
  f1 : BeginsNothing text → char_width text ≢ 0 → Row text 0 1
  -- F2: a byte that is no UTF-8
  f2 : BeginsNothing text → char_width text ≡ 0 → Row text 0 2
  f2_inside : (from : ℕ) (part : List ℕ) → Encloses text from part → run_len Utf8 part < length part → Row text (run_len Utf8 part + from) 2
  -- F3: a string literal without its end
  f3 : StaysOpen 34 (Quoted 34) text → Row text 0 3
  f3_raw : StaysOpen 96 Raw text → Row text 0 3
  -- F4: a rune literal without its end, or, with right escapes, not of exactly one character
  f4 : StaysOpen 39 (Quoted 39) text → Row text 0 4
  f4_count : Closes 39 (Quoted 39) text → run_len (Escaped 39) (inside (Quoted 39) text) ≡ length (inside (Quoted 39) text) → rune_width (inside (Quoted 39) text) ≢ length (inside (Quoted 39) text) → Row text 0 4
  -- F5: a number with a point, an exponent or `i`
  f5 : (base over n : ℕ) → BeginsNumber base over n text → is_beyond (byte_at text (over + n)) ≡ true → Row text 0 5
  f5_point : byte_at text 0 ≡ 46 → is_decimal (byte_at text 1) ≡ true → Row text 0 5
  -- F6: a number with a wrong digit, no digit after its prefix, or a misplaced `_`
  f6 : (base over n : ℕ) → BeginsNumber base over n text → value_from base 0 true false (take n (drop over text)) ≡ None → Row text 0 6
  -- F7: a backslash of an unknown escape or of a value out of range
  f7 : Closes 34 (Quoted 34) text → run_len (Escaped 34) (inside (Quoted 34) text) < length (inside (Quoted 34) text) → Row text (run_len (Escaped 34) (inside (Quoted 34) text) + 1) 7
  f7_rune : Closes 39 (Quoted 39) text → run_len (Escaped 39) (inside (Quoted 39) text) < length (inside (Quoted 39) text) → Row text (run_len (Escaped 39) (inside (Quoted 39) text) + 1) 7
  -- F8: a general comment without its end
  f8 : byte_at text 0 ≡ 47 → byte_at text 1 ≡ 42 → comment_closes text ≡ false → Row text 0 8
  -- F9: an integer literal of 2^127 or more
  f9 : (base over n value : ℕ) → BeginsNumber base over n text → value_from base 0 true false (take n (drop over text)) ≡ Some value → limit ≤ value → Row text 0 9

-- the place and code are at or after these: the earlier place counts, then the lower code
abbrev pub IsAtMost : ℕ → ℕ → ℕ → ℕ → Type 0
IsAtMost k code k' code' = (k < k') ⊎ ((k ≡ k') × (code ≤ code'))

-- the least of the rows that hold
pub record IsLeastRow (text : List ℕ) (k code : ℕ) : Type 0 where
  pub holds : Row text k code
  pub least : (k' code' : ℕ) → Row text k' code' → IsAtMost k code k' code'
