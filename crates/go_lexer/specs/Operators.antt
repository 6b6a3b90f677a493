-- The longest operator or punctuation that three bytes begin with; `specs/Pieces.antt` says what it is.
use Rattle.std.specs.Prelude.{ℕ, Option, Some, None, ◌==◌, ◌&&◌, if◌then◌else◌}
use Rattle.go_syntax.specs.declared.operator.Operator.{Operator}
use Rattle.go_syntax.specs.declared.operator.Operator.TheVariants as op

-- operators that begin with `+`
abbrev pub plus : ℕ → Operator
plus b =
    if b == 61 then op.AddAssign
    else (if b == 43 then op.Increment
    else (op.Add))

-- operators that begin with `-`
abbrev pub minus : ℕ → Operator
minus b =
    if b == 61 then op.SubAssign
    else (if b == 45 then op.Decrement
    else (op.Sub))

-- operators that begin with `*`
abbrev pub star : ℕ → Operator
star b =
    if b == 61 then op.MulAssign
    else (op.Mul)

-- operators that begin with `/`
abbrev pub slash : ℕ → Operator
slash b =
    if b == 61 then op.DivAssign
    else (op.Div)

-- operators that begin with `%`
abbrev pub percent : ℕ → Operator
percent b =
    if b == 61 then op.RemAssign
    else (op.Rem)

-- operators that begin with `&`
abbrev pub ampersand : ℕ → ℕ → Operator
ampersand b c =
    if b == 94 then (if c == 61 then op.AndNotAssign else op.AndNot)
    else (if b == 61 then op.AndAssign
    else (if b == 38 then op.AndThen
    else (op.And)))

-- operators that begin with `|`
abbrev pub bar : ℕ → Operator
bar b =
    if b == 61 then op.OrAssign
    else (if b == 124 then op.OrElse
    else (op.Or))

-- operators that begin with `^`
abbrev pub caret : ℕ → Operator
caret b =
    if b == 61 then op.XorAssign
    else (op.Xor)

-- operators that begin with `<`
abbrev pub less : ℕ → ℕ → Operator
less b c =
    if b == 60 then (if c == 61 then op.ShlAssign else op.Shl)
    else (if b == 45 then op.Arrow
    else (if b == 61 then op.Le
    else (op.Lt)))

-- operators that begin with `>`
abbrev pub greater : ℕ → ℕ → Operator
greater b c =
    if b == 62 then (if c == 61 then op.ShrAssign else op.Shr)
    else (if b == 61 then op.Ge
    else (op.Gt))

-- operators that begin with `=`
abbrev pub equals : ℕ → Operator
equals b =
    if b == 61 then op.Eq
    else (op.Assign)

-- operators that begin with `!`
abbrev pub bang : ℕ → Operator
bang b =
    if b == 61 then op.Ne
    else (op.Not)

-- operators that begin with `:`
abbrev pub colon : ℕ → Operator
colon b =
    if b == 61 then op.Define
    else (op.Colon)

-- operators that begin with `.`
abbrev pub dot : ℕ → ℕ → Operator
dot b c =
    if b == 46 && c == 46 then op.Ellipsis
    else (op.Dot)

-- operators and punctuation of one byte that begin no longer one
unfoldable pub punctuation : ℕ → Option Operator
punctuation a =
    if a == 40 then Some op.LeftParen
    else (if a == 41 then Some op.RightParen
    else (if a == 91 then Some op.LeftBracket
    else (if a == 93 then Some op.RightBracket
    else (if a == 123 then Some op.LeftBrace
    else (if a == 125 then Some op.RightBrace
    else (if a == 44 then Some op.Comma
    else (None)))))))

-- the longest one that begins with these bytes
unfoldable pub operator_of : ℕ → ℕ → ℕ → Option Operator
operator_of a b c =
    if a == 43 then Some (plus b)
    else (if a == 45 then Some (minus b)
    else (if a == 42 then Some (star b)
    else (if a == 47 then Some (slash b)
    else (if a == 37 then Some (percent b)
    else (if a == 38 then Some (ampersand b c)
    else (if a == 124 then Some (bar b)
    else (if a == 94 then Some (caret b)
    else (if a == 60 then Some (less b c)
    else (if a == 62 then Some (greater b c)
    else (if a == 61 then Some (equals b)
    else (if a == 33 then Some (bang b)
    else (if a == 58 then Some (colon b)
    else (if a == 46 then Some (dot b c)
    else (punctuation a))))))))))))))
