-- What stands at the front of a text, read from left to right: the piece that begins there, or the
-- first fault in it. `specs/Pieces.antt` says what the pieces are.
use Rattle.std.specs.Prelude.{◌≢◌, ◌≤◌, ℕ, true, false, List, ◌+◌, ◌==◌, ◌&&◌, nat_lt, if◌then◌else◌, not, Option, Some, None, drop, take, length}
use Rattle.go_lexer.specs.Chars.{byte_at, char_width, letter_width}
use Rattle.go_lexer.specs.Runs.{run_len, is_decimal}
use Rattle.go_lexer.specs.Numbers.{base_of, prefix_of, digits_len, value_from, is_beyond, limit}
use Rattle.go_lexer.specs.Operators.{operator_of}
use Rattle.go_lexer.specs.Keywords.{keyword_of}
use Rattle.go_syntax.specs.Spelling.{operator_text}
unfoldable pub use Rattle.go_lexer.specs.Kinds.{rune_width, word_ends, is_build}
pub use Rattle.go_lexer.specs.Kinds.{name_kind, is_blank}
use Rattle.go_syntax.specs.declared.operator.Operator.{Operator}
use Rattle.go_syntax.specs.declared.kind.TokenKind.TheVariants as kind
use Rattle.go_lexer.specs.declared.run.Class.TheVariants.{Name, Quoted, Escaped, Raw, Line, General, Utf8}
use Rattle.go_lexer.specs.declared.step.Step.{Step}
use Rattle.go_lexer.specs.declared.step.Step.TheVariants.{Token, Blank, Break, Build, Bad}

-- a number with this value and so many bytes
abbrev pub int_step : Option ℕ → ℕ → Step
int_step None width = Bad 0 6
int_step (Some value) width = if nat_lt value limit then Token kind.Int width else Bad 0 9

-- a number of this base, with so many bytes before its digits and so many digits
unfoldable pub digits_step : ℕ → ℕ → ℕ → List ℕ → Step
digits_step base over n text =
    if is_beyond (byte_at text (over + n)) then Bad 0 5
    else int_step (value_from base 0 true false (take n (drop over text))) (over + n)

unfoldable pub number_step : List ℕ → Step
number_step text =
    let base = base_of (byte_at text 0) (byte_at text 1) in
    let over = prefix_of (byte_at text 0) (byte_at text 1) in
    digits_step base over (digits_len base over text) text

-- what is between the quotes of a string literal, with its first bad byte and its first wrong escape
unfoldable pub string_body_step : List ℕ → Step
string_body_step body =
    let bad = run_len Utf8 body in
    let wrong = run_len (Escaped 34) body in
    if nat_lt wrong bad then Bad (wrong + 1) 7
    else (if nat_lt bad (length body) then Bad (bad + 1) 2
    else Token kind.Str (length body + 2))

unfoldable pub string_step : List ℕ → Step
string_step text =
    let n = run_len (Quoted 34) (drop 1 text) in
    if byte_at text (n + 1) == 34 then string_body_step (take n (drop 1 text)) else Bad 0 3

-- what is between the quotes of a rune literal; a byte that is no UTF-8 counts as a character
unfoldable pub rune_body_step : List ℕ → Step
rune_body_step body =
    let bad = run_len Utf8 body in
    let wrong = run_len (Escaped 39) body in
    if nat_lt wrong (length body) then (if nat_lt wrong bad then Bad (wrong + 1) 7 else Bad (bad + 1) 2)
    else (if not (rune_width body == length body) then Bad 0 4
    else (if nat_lt bad (length body) then Bad (bad + 1) 2
    else Token kind.Rune (length body + 2)))

unfoldable pub rune_step : List ℕ → Step
rune_step text =
    let n = run_len (Quoted 39) (drop 1 text) in
    if byte_at text (n + 1) == 39 then rune_body_step (take n (drop 1 text)) else Bad 0 4

-- what is between the back quotes of a raw string literal
unfoldable pub raw_body_step : List ℕ → Step
raw_body_step body =
    let bad = run_len Utf8 body in
    if nat_lt bad (length body) then Bad (bad + 1) 2 else Token kind.Str (length body + 2)

unfoldable pub raw_step : List ℕ → Step
raw_step text =
    let n = run_len Raw (drop 1 text) in
    if byte_at text (n + 1) == 96 then raw_body_step (take n (drop 1 text)) else Bad 0 3

unfoldable pub comment_step : List ℕ → Step → Step
comment_step comment step =
    let bad = run_len Utf8 comment in
    if nat_lt bad (length comment) then Bad bad 2 else step

unfoldable pub line_step : List ℕ → Step
line_step text =
    let n = run_len Line text in
    let comment = take n text in
    comment_step comment (if is_build comment then Build n else Blank n)

unfoldable pub general_step : List ℕ → Step
general_step text =
    let n = run_len General (drop 2 text) in
    let comment = take (n + 4) text in
    if byte_at text (n + 2) == 42 && byte_at text (n + 3) == 47 then comment_step comment (if nat_lt (run_len Line comment) (length comment) then Break (n + 4) else Blank (n + 4))
    else Bad 0 8

unfoldable pub name_step : List ℕ → Step
name_step text =
    if letter_width text == 0 then (if char_width text == 0 then Bad 0 2 else Bad 0 1)
    else (let n = run_len Name text in Token (name_kind (keyword_of (take n text))) n)

abbrev pub operator_step : Option Operator → List ℕ → Step
operator_step None text = name_step text
operator_step (Some op) text = Token (kind.Op op) (length (operator_text op))

-- the same where the text begins with `/` and this byte
abbrev pub slash_by : ℕ → List ℕ → Step
slash_by b text =
    if b == 47 then line_step text
    else (if b == 42 then general_step text
    else operator_step (operator_of (byte_at text 0) (byte_at text 1) (byte_at text 2)) text)

unfoldable pub slash_step : List ℕ → Step
slash_step text = slash_by (byte_at text 1) text

unfoldable pub sign_step : List ℕ → Step
sign_step text =
    if byte_at text 0 == 46 && is_decimal (byte_at text 1) then Bad 0 5
    else operator_step (operator_of (byte_at text 0) (byte_at text 1) (byte_at text 2)) text

-- the same where the text begins with this byte
abbrev pub step_by : ℕ → List ℕ → Step
step_by b text =
    if b == 10 then Break 1
    else (if is_blank b then Blank 1
    else (if is_decimal b then number_step text
    else (if b == 34 then string_step text
    else (if b == 39 then rune_step text
    else (if b == 96 then raw_step text
    else (if b == 47 then slash_step text
    else (if b == 59 then Token kind.Semi 1
    else sign_step text)))))))

-- what stands at the front of a text that isn't empty
unfoldable pub step_at : List ℕ → Step
step_at text = step_by (byte_at text 0) text

-- what the step takes, or the place of its fault, lies within so many bytes, and its token is no end
abbrev pub IsInside : ℕ → Step → Type 0
IsInside size (Token of width) = (width ≤ size) × (of ≢ kind.End)
IsInside size (Blank width) = width ≤ size
IsInside size (Break width) = width ≤ size
IsInside size (Build width) = width ≤ size
IsInside size (Bad place code) = place ≤ size
