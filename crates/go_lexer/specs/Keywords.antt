-- The keyword that a name is, found by its first letter.
use Rattle.std.specs.Prelude.{ℕ, List, Option, Some, None, ◌==◌, if◌then◌else◌, bytes_eq}
use Rattle.go_syntax.specs.Spelling.{keyword_text}
use Rattle.go_lexer.specs.Chars.{byte_at}
use Rattle.go_syntax.specs.declared.keyword.Keyword.{Keyword}
use Rattle.go_syntax.specs.declared.keyword.Keyword.TheVariants as keyword

unfoldable pub with_b : List ℕ → Option Keyword
with_b text =
    if bytes_eq text (keyword_text keyword.Break) then Some keyword.Break
    else (None)

unfoldable pub with_c : List ℕ → Option Keyword
with_c text =
    if bytes_eq text (keyword_text keyword.Case) then Some keyword.Case
    else (if bytes_eq text (keyword_text keyword.Chan) then Some keyword.Chan
    else (if bytes_eq text (keyword_text keyword.Const) then Some keyword.Const
    else (if bytes_eq text (keyword_text keyword.Continue) then Some keyword.Continue
    else (None))))

unfoldable pub with_d : List ℕ → Option Keyword
with_d text =
    if bytes_eq text (keyword_text keyword.Default) then Some keyword.Default
    else (if bytes_eq text (keyword_text keyword.Defer) then Some keyword.Defer
    else (None))

unfoldable pub with_e : List ℕ → Option Keyword
with_e text =
    if bytes_eq text (keyword_text keyword.Else) then Some keyword.Else
    else (None)

unfoldable pub with_f : List ℕ → Option Keyword
with_f text =
    if bytes_eq text (keyword_text keyword.Fallthrough) then Some keyword.Fallthrough
    else (if bytes_eq text (keyword_text keyword.For) then Some keyword.For
    else (if bytes_eq text (keyword_text keyword.Func) then Some keyword.Func
    else (None)))

unfoldable pub with_g : List ℕ → Option Keyword
with_g text =
    if bytes_eq text (keyword_text keyword.Go) then Some keyword.Go
    else (if bytes_eq text (keyword_text keyword.Goto) then Some keyword.Goto
    else (None))

unfoldable pub with_i : List ℕ → Option Keyword
with_i text =
    if bytes_eq text (keyword_text keyword.If) then Some keyword.If
    else (if bytes_eq text (keyword_text keyword.Import) then Some keyword.Import
    else (if bytes_eq text (keyword_text keyword.Interface) then Some keyword.Interface
    else (None)))

unfoldable pub with_m : List ℕ → Option Keyword
with_m text =
    if bytes_eq text (keyword_text keyword.Map) then Some keyword.Map
    else (None)

unfoldable pub with_p : List ℕ → Option Keyword
with_p text =
    if bytes_eq text (keyword_text keyword.Package) then Some keyword.Package
    else (None)

unfoldable pub with_r : List ℕ → Option Keyword
with_r text =
    if bytes_eq text (keyword_text keyword.Range) then Some keyword.Range
    else (if bytes_eq text (keyword_text keyword.Return) then Some keyword.Return
    else (None))

unfoldable pub with_s : List ℕ → Option Keyword
with_s text =
    if bytes_eq text (keyword_text keyword.Select) then Some keyword.Select
    else (if bytes_eq text (keyword_text keyword.Struct) then Some keyword.Struct
    else (if bytes_eq text (keyword_text keyword.Switch) then Some keyword.Switch
    else (None)))

unfoldable pub with_t : List ℕ → Option Keyword
with_t text =
    if bytes_eq text (keyword_text keyword.Type) then Some keyword.Type
    else (None)

unfoldable pub with_v : List ℕ → Option Keyword
with_v text =
    if bytes_eq text (keyword_text keyword.Var) then Some keyword.Var
    else (None)

-- the keyword that is written so, where the name begins with this byte
unfoldable pub keyword_by : ℕ → List ℕ → Option Keyword
keyword_by first text =
    if first == 98 then with_b text
    else (if first == 99 then with_c text
    else (if first == 100 then with_d text
    else (if first == 101 then with_e text
    else (if first == 102 then with_f text
    else (if first == 103 then with_g text
    else (if first == 105 then with_i text
    else (if first == 109 then with_m text
    else (if first == 112 then with_p text
    else (if first == 114 then with_r text
    else (if first == 115 then with_s text
    else (if first == 116 then with_t text
    else (if first == 118 then with_v text
    else (None)))))))))))))

-- the keyword that is written so
abbrev pub keyword_of : List ℕ → Option Keyword
keyword_of text = keyword_by (byte_at text 0) text
