-- ECMA-262 5.1, 7, cut to the subset: the tokens of a text, each the longest one at its place.
use Rattle.std.specs.Prelude.{ℕ, ◌+◌, List, [], ◌∷◌, ◌++◌, length, Bool, true, false, not, nat_le, ◌==◌, ◌&&◌, ◌||◌, IsTrue, codes, bytes_eq}
use Rattle.std.specs.List.{list_all}
use Rattle.std.specs.Fmt.{decimal}
use Rattle.js_tree.specs.Printed.{string_text}
use Rattle.js_tree.specs.Printable.{is_name_byte, is_in_range, is_byte}

-- 7.6 to 7.8: a name or a word such as `while`, a sign such as `===`, a number, a string by its bytes
pub data Token : Type 0 where
  identifier_name : (bytes : List ℕ) → Token
  punctuator : (bytes : List ℕ) → Token
  numeric_literal : (n : ℕ) → Token
  string_literal : (bytes : List ℕ) → Token

-- a token with the offset of its first byte
pub record Placed : Type 0 where
  pub token : Token
  pub at : ℕ

abbrev pub is_digit : ℕ → Bool
is_digit c = nat_le 48 c && nat_le c 57

-- 7.6, cut to ASCII
abbrev pub is_identifier_name : List ℕ → Bool
is_identifier_name [] = false
is_identifier_name (c ∷ cs) = not (is_digit c) && list_all is_name_byte (c ∷ cs)

-- 7.7, whole, and `/` and `/=`
abbrev pub punctuators : List (List ℕ)
punctuators =
    codes "{" ∷ codes "}" ∷ codes "(" ∷ codes ")" ∷ codes "[" ∷ codes "]" ∷ codes "." ∷ codes ";" ∷ codes "," ∷ codes "<"
    ∷ codes ">" ∷ codes "<=" ∷ codes ">=" ∷ codes "==" ∷ codes "!=" ∷ codes "===" ∷ codes "!==" ∷ codes "+" ∷ codes "-" ∷ codes "*"
    ∷ codes "%" ∷ codes "++" ∷ codes "--" ∷ codes "<<" ∷ codes ">>" ∷ codes ">>>" ∷ codes "&" ∷ codes "|" ∷ codes "^" ∷ codes "!"
    ∷ codes "~" ∷ codes "&&" ∷ codes "||" ∷ codes "?" ∷ codes ":" ∷ codes "=" ∷ codes "+=" ∷ codes "-=" ∷ codes "*=" ∷ codes "%="
    ∷ codes "<<=" ∷ codes ">>=" ∷ codes ">>>=" ∷ codes "&=" ∷ codes "|=" ∷ codes "^=" ∷ codes "/" ∷ codes "/=" ∷ []

abbrev pub is_one_of : List (List ℕ) → List ℕ → Bool
is_one_of [] s = false
is_one_of (p ∷ ps) s = bytes_eq p s || is_one_of ps s

-- 7.6 to 7.8, cut: numbers up to 2^53, strings of bytes
abbrev pub is_token : Token → Bool
is_token (identifier_name x) = is_identifier_name x
is_token (punctuator s) = is_one_of punctuators s
is_token (numeric_literal n) = is_in_range n
is_token (string_literal s) = list_all is_byte s

-- how a token is spelled; each has one spelling: numbers have no leading zero, and only bytes that can't stand for themselves are escaped
abbrev pub spelling : Token → List ℕ
spelling (identifier_name x) = x
spelling (punctuator s) = s
spelling (numeric_literal n) = decimal n
spelling (string_literal s) = string_text s

abbrev pub begins : List ℕ → List ℕ → Bool
begins [] text = true
begins (c ∷ cs) [] = false
begins (c ∷ cs) (x ∷ xs) = c == x && begins cs xs

-- 7.6: a letter, a digit, `_` or `$` comes first
abbrev pub goes_on : List ℕ → Bool
goes_on [] = false
goes_on (c ∷ cs) = is_name_byte c

-- 7.8.3: the same or a `.`, neither of which may follow a number
abbrev pub number_goes_on : List ℕ → Bool
number_goes_on [] = false
number_goes_on (c ∷ cs) = is_name_byte c || c == 46

-- of the signs that the text begins with none is longer
abbrev pub is_longest : List (List ℕ) → List ℕ → List ℕ → Bool
is_longest [] s text = true
is_longest (p ∷ ps) s text = (not (begins p text) || nat_le (length p) (length s)) && is_longest ps s text

-- 7: before this text a token ends, since no longer one stands there. What this leaves out, a number that begins with `.` and comments, stands where no token of the subset may follow.
abbrev pub ends : Token → List ℕ → Bool
ends (identifier_name x) rest = not (goes_on rest)
ends (punctuator s) rest = is_longest punctuators s (s ++ rest)
ends (numeric_literal n) rest = not (number_goes_on rest)
ends (string_literal s) rest = true

-- spaces, and newlines where they may stand
abbrev pub is_gap : Bool → List ℕ → Bool
is_gap newlines bytes = list_all (λ c. c == 32 || newlines && c == 10) bytes

-- 7.9.1, restricted productions: after these no newline may stand
abbrev pub is_restricted : Token → Bool
is_restricted (identifier_name x) =
    is_one_of (codes "return" ∷ codes "throw" ∷ codes "break" ∷ codes "continue" ∷ []) x
is_restricted _ = false

-- a text that begins at an offset is these tokens with spaces and newlines between
pub data Splits : (newlines : Bool) (at : ℕ) (text : List ℕ) (tokens : List Placed) → Type 0 where
  end : {newlines : Bool} {at : ℕ} (gap : List ℕ) → IsTrue (is_gap newlines gap) → Splits newlines at gap []
  token : {newlines : Bool} {at : ℕ} {rest : List ℕ} {tokens : List Placed} (gap : List ℕ) (t : Token)
      → IsTrue (is_gap newlines gap) → IsTrue (is_token t) → IsTrue (ends t rest)
      → Splits (not (is_restricted t)) (at + length gap + length (spelling t)) rest tokens
      → Splits newlines at (gap ++ spelling t ++ rest) (record { token = t; at = at + length gap } ∷ tokens)
