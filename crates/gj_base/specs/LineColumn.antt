-- own: lines and columns of a text, counted from 1. A newline ends the line that it stands in.
use Rattle.std.specs.Prelude.{ℕ, ◌+◌, ◌==◌, Bool, not, List, length, take, reverse}
use Rattle.std.specs.List.{count_by, take_while}

-- whether a byte is a newline
abbrev pub is_newline : ℕ → Bool
is_newline byte = byte == 10

-- one more than the newlines of the text before a place
abbrev pub line_after : List ℕ → ℕ
line_after before = count_by is_newline before + 1

-- one more than the bytes since the last newline of the text before a place
abbrev pub column_after : List ℕ → ℕ
column_after before = length (take_while (λ byte. not (is_newline byte)) (reverse before)) + 1

-- line and column of an offset
abbrev pub line_and_column : List ℕ → ℕ → ℕ × ℕ
line_and_column text offset = (line_after (take offset text), column_after (take offset text))
