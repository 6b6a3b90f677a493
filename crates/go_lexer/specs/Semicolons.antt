-- Go specification (as of Go 1.17), "Semicolons": the tokens that pieces add, with the automatic
-- semicolons, the mark of the build constraint and the byte order mark.
use Rattle.std.specs.Prelude.{ℕ, suc, Bool, true, false, List, [], ◌+◌, ◌-◌, ◌==◌, ◌&&◌, if◌then◌else◌, Option, Some, None, length}
use Rattle.gj_base.specs.declared.place.Place.{Place}
use Rattle.go_syntax.specs.Token.{TokenList, with_token}
use Rattle.go_syntax.specs.declared.keyword.Keyword.{Keyword}
use Rattle.go_syntax.specs.declared.keyword.Keyword.TheVariants as keyword
use Rattle.go_syntax.specs.declared.operator.Operator.{Operator}
use Rattle.go_syntax.specs.declared.operator.Operator.TheVariants as op
use Rattle.go_syntax.specs.declared.kind.TokenKind.{TokenKind}
use Rattle.go_syntax.specs.declared.kind.TokenKind.TheVariants as kind
use Rattle.go_lexer.specs.Chars.{byte_at}
use Rattle.go_lexer.specs.Texts.{text_at}
use Rattle.go_lexer.specs.declared.progress.Progress.{Progress}

abbrev pub word_ends_line : Keyword → Bool
word_ends_line keyword.Break = true
word_ends_line keyword.Continue = true
word_ends_line keyword.Fallthrough = true
word_ends_line keyword.Return = true
word_ends_line _ = false

abbrev pub operator_ends_line : Operator → Bool
operator_ends_line op.Increment = true
operator_ends_line op.Decrement = true
operator_ends_line op.RightParen = true
operator_ends_line op.RightBracket = true
operator_ends_line op.RightBrace = true
operator_ends_line _ = false

-- Go specification (as of Go 1.17), "Semicolons": the tokens after which a line's end is a semicolon
abbrev pub ends_line : TokenKind → Bool
ends_line kind.Name = true
ends_line kind.Int = true
ends_line kind.Rune = true
ends_line kind.Str = true
ends_line (kind.Word word) = word_ends_line word
ends_line (kind.Op op) = operator_ends_line op
ends_line kind.Semi = false
ends_line kind.Auto = false
ends_line kind.End = false

-- a piece has at least one byte
abbrev pub passed : ℕ → ℕ
passed width = suc (width - 1)

-- with the token of this kind and so many bytes that begins the text at this offset
unfoldable pub after_token : TokenKind → ℕ → ℕ → List ℕ → Progress → Progress
after_token kind width at text old =
    record { tokens = with_token old.tokens kind at (text_at kind width text); due = if ends_line kind then Some (at + passed width) else None }

abbrev pub with_auto : Option ℕ → Progress → Progress
with_auto None old = old
with_auto (Some place) old = record { tokens = with_token old.tokens kind.Auto place []; due = None }

-- at a line's end
unfoldable pub after_newline : Progress → Progress
after_newline old = with_auto old.due old

abbrev pub with_constraint : Bool → Option Place → ℕ → Progress → Progress
with_constraint true None at old = record old { tokens = record old.tokens { constraint = Some (record { file = old.tokens.file; offset = at }) } }
with_constraint _ _ at old = old

-- after a build constraint at this offset: the first one before the first token counts
unfoldable pub after_build : ℕ → Progress → Progress
after_build at old = with_constraint (length old.tokens.tokens == 0) old.tokens.constraint at old

-- at the text's end
unfoldable pub after_end : ℕ → Progress → TokenList
after_end at old = with_token (after_newline old).tokens kind.End at []

-- how many bytes the byte order mark has that begins the text
unfoldable pub mark_width : List ℕ → ℕ
mark_width text = if byte_at text 0 == 0xEF && byte_at text 1 == 0xBB && byte_at text 2 == 0xBF then 3 else 0

-- before the first token of this file
abbrev pub start_of : ℕ → Progress
start_of file = record { tokens = record { file = file; tokens = []; constraint = None }; due = None }
