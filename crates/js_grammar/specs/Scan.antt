-- ECMA-262 5.1, 7.6 to 7.8, from left to right: the token that a text begins with, byte by byte.
use Rattle.std.specs.Prelude.{ℕ, suc, ◌+◌, ◌*◌, ◌-◌, List, [], ◌∷◌, ◌++◌, take, drop, length, Option, Some, None, Bool, false, not, if◌then◌else◌, nat_le, nat_lt, ◌==◌, ◌&&◌, ◌||◌}
use Rattle.std.specs.Str.{all_ascii_digits}
use Rattle.js_grammar.specs.declared.scan.Inside.{Inside}
use Rattle.js_grammar.specs.declared.scan.Inside.TheVariants.{Plain, Escape, High, Low}
use Rattle.js_grammar.specs.declared.scan.Step.{Step}
use Rattle.js_grammar.specs.declared.scan.Step.TheVariants.{Wrong, Ends, Goes, Gives}
use Rattle.js_tree.specs.Printable.{is_name_byte, is_in_range}
use Rattle.js_tree.specs.Lexical.{Token, identifier_name, punctuator, numeric_literal, string_literal, is_digit, begins, punctuators}

-- 7.8.4: a byte that stands for itself in a string
abbrev pub is_plain : ℕ → Bool
is_plain c = not (c == 34) && not (c == 92) && (nat_le 32 c && nat_lt c 127)

abbrev pub is_hex : ℕ → Bool
is_hex c = is_digit c || nat_le 97 c && nat_le c 102

abbrev pub hex_value : ℕ → ℕ
hex_value c = if nat_le 97 c then c - 87 else c - 48

-- after two digits: a byte that can't stand for itself
abbrev pub low_step : ℕ → ℕ → Step
low_step c b = if is_hex c && not (is_plain b) && not (b == 34) && not (b == 92) then Gives b else Wrong

-- what a byte does in a string of which this has been read
abbrev pub step : Inside → ℕ → Step
step Plain c = if c == 34 then Ends else if c == 92 then Goes Escape else if is_plain c then Gives c else Wrong
step Escape c = if c == 34 || c == 92 then Gives c else if c == 120 then Goes High else Wrong
step High c = if is_hex c then Goes (Low (hex_value c)) else Wrong
step (Low h) c = if nat_lt h 16 then low_step c (16 * h + hex_value c) else Wrong

abbrev pub Scanned : Type 0
Scanned = Option (List ℕ × List ℕ)

-- with bytes before what has been scanned
abbrev pub with_front : List ℕ → Scanned → Scanned
with_front front None = None
with_front front (Some p) = Some (front ++ p.0, p.1)

abbrev pub on_step : Step → List ℕ → (Inside → Scanned) → Scanned
on_step Wrong cs f = None
on_step Ends cs f = Some ([], cs)
on_step (Goes s) cs f = f s
on_step (Gives c) cs f = with_front (c ∷ []) (f Plain)

-- the bytes of a string up to its closing quote, and the text after it
abbrev pub scan : Inside → List ℕ → Scanned
scan s [] = None
scan s (c ∷ cs) = on_step (step s c) cs (λ t. scan t cs)

-- the bytes of the string whose inside a text begins with
abbrev pub bytes_of : Scanned → List ℕ
bytes_of None = []
bytes_of (Some p) = p.0

abbrev pub value_after : ℕ → List ℕ → ℕ
value_after n [] = n
value_after n (c ∷ cs) = value_after (10 * n + (c - 48)) cs

abbrev pub leads_with_zero : List ℕ → Bool
leads_with_zero [] = false
leads_with_zero (c ∷ []) = false
leads_with_zero (c ∷ cs) = c == 48

-- 7.8.3, cut: the number that these bytes are
abbrev pub number_of : List ℕ → Option ℕ
number_of ds =
    if all_ascii_digits ds && not (leads_with_zero ds) && is_in_range (value_after 0 ds) then Some (value_after 0 ds) else None

-- how many bytes of a name or a number a text begins with
abbrev pub run : List ℕ → ℕ
run [] = 0
run (c ∷ cs) = if is_name_byte c then suc (run cs) else 0

abbrev pub dot_follows : List ℕ → Bool
dot_follows [] = false
dot_follows (c ∷ cs) = c == 46

-- how many bytes the longest of the signs has that a text begins with, if it is more than n
abbrev pub longest : List (List ℕ) → ℕ → List ℕ → ℕ
longest [] n text = n
longest (p ∷ ps) n text = longest ps (if begins p text && nat_lt n (length p) then length p else n) text

abbrev pub Found : Type 0
Found = Option (Token × List ℕ)

abbrev pub numbered : Option ℕ → List ℕ → Found
numbered None rest = None
numbered (Some n) rest = if dot_follows rest then None else Some (numeric_literal n, rest)

abbrev pub quoted : Scanned → Found
quoted None = None
quoted (Some p) = Some (string_literal p.0, p.1)

abbrev pub signed : ℕ → List ℕ → Found
signed n text = if n == 0 then None else Some (punctuator (take n text), drop n text)

-- the first token of a text, and the text after it
abbrev pub token_at : List ℕ → Found
token_at [] = None
token_at (c ∷ cs) =
    if is_digit c then numbered (number_of (take (run (c ∷ cs)) (c ∷ cs))) (drop (run (c ∷ cs)) (c ∷ cs))
    else if is_name_byte c then Some (identifier_name (take (run (c ∷ cs)) (c ∷ cs)), drop (run (c ∷ cs)) (c ∷ cs))
    else if c == 34 then quoted (scan Plain cs) else signed (longest punctuators 0 (c ∷ cs)) (c ∷ cs)
