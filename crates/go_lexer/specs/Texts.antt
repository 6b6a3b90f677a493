-- Go specification (as of Go 1.17), "Rune literals" and "String literals": the text of a token, read
-- from left to right.
use Rattle.std.specs.Prelude.{ℕ, zero, suc, List, [], ◌∷◌, ◌++◌, ◌-◌, ◌==◌, if◌then◌else◌, not, Option, Some, None, drop, take, filter, encode_utf8}
use Rattle.go_lexer.specs.Chars.{byte_at}
use Rattle.go_lexer.specs.Escapes.{escape_at}
use Rattle.go_lexer.specs.declared.escape.Escape.{Escape}
use Rattle.go_syntax.specs.declared.kind.TokenKind.{TokenKind}
use Rattle.go_syntax.specs.declared.kind.TokenKind.TheVariants as kind

-- what an escape in a string stands for: a byte, or a code point in UTF-8
abbrev pub bytes_of : Escape → List ℕ
bytes_of e = if e.is_byte then e.value ∷ [] else encode_utf8 e.value

-- the value of what is between the quotes of a string literal, after the bytes that are passed over
abbrev pub string_from : ℕ → List ℕ → List ℕ
string_from over [] = []
string_from (suc over) (b ∷ text) = string_from over text
string_from zero (b ∷ text) =
    if b == 92 then (elim (escape_at 34 (b ∷ text)) [ None ↦ string_from zero text | Some e ↦ bytes_of e ++ string_from (e.width - 1) text ])
    else b ∷ string_from zero text

unfoldable pub string_value : List ℕ → List ℕ
string_value body = string_from 0 body

abbrev pub utf8_of : Option Escape → List ℕ
utf8_of None = []
utf8_of (Some e) = encode_utf8 e.value

-- the value of what is between the quotes of a rune literal, in UTF-8
unfoldable pub rune_value : List ℕ → List ℕ
rune_value body = if byte_at body 0 == 92 then utf8_of (escape_at 39 body) else body

-- the value of a raw string literal, which has no carriage returns
unfoldable pub raw_value : List ℕ → List ℕ
raw_value body = filter (λ b. not (b == 13)) body

-- what is between the quotes of a literal of so many bytes
abbrev pub body_of : ℕ → List ℕ → List ℕ
body_of width text = take (width - 2) (drop 1 text)

-- the text of the token of this kind and so many bytes that begins the text
unfoldable pub text_at : TokenKind → ℕ → List ℕ → List ℕ
text_at kind.Str width text = if byte_at text 0 == 34 then string_value (body_of width text) else raw_value (body_of width text)
text_at kind.Rune width text = rune_value (body_of width text)
text_at _ width text = take width text
