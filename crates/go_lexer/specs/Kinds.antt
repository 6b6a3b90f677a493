-- What the bytes of a piece say of it.
use Rattle.std.specs.Prelude.{ℕ, Bool, List, ◌==◌, ◌&&◌, ◌||◌, if◌then◌else◌, Option, Some, None, take, length, codes, bytes_eq}
use Rattle.go_lexer.specs.Chars.{byte_at, char_width}
use Rattle.go_lexer.specs.Escapes.{escape_at}
use Rattle.go_lexer.specs.Runs.{width_of_escape}
use Rattle.go_syntax.specs.declared.keyword.Keyword.{Keyword}
use Rattle.go_syntax.specs.declared.kind.TokenKind.{TokenKind}
use Rattle.go_syntax.specs.declared.kind.TokenKind.TheVariants as kind

-- a space, a tab or a carriage return
abbrev pub is_blank : ℕ → Bool
is_blank b = b == 32 || b == 9 || b == 13

-- a name that is this keyword, or none
abbrev pub name_kind : Option Keyword → TokenKind
name_kind None = kind.Name
name_kind (Some word) = kind.Word word

-- how many bytes the first character of a rune literal has; a byte that is no UTF-8 counts as one
unfoldable pub rune_width : List ℕ → ℕ
rune_width body =
    if byte_at body 0 == 92 then width_of_escape (escape_at 39 body)
    else (if char_width body == 0 then 1 else char_width body)

-- the word ends after so many bytes of the comment
unfoldable pub word_ends : List ℕ → ℕ → Bool
word_ends comment n = length comment == n || byte_at comment n == 32 || byte_at comment n == 9 || byte_at comment n == 13

-- a line comment that is a build constraint
unfoldable pub is_build : List ℕ → Bool
is_build comment =
    (bytes_eq (take 10 comment) (codes "//go:build") && word_ends comment 10)
    || (bytes_eq (take 9 comment) (codes "// +build") && word_ends comment 9)
