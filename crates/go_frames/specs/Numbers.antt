-- A number for each operator, by which the code tells them apart.
use Rattle.std.specs.Prelude.{◌≡◌, ℕ, Bool, bytes_eq, nat_eq}
use Rattle.go_syntax.specs.Spelling.{operator_text}
use Rattle.go_syntax.specs.declared.operator.Operator.{Operator}
use Rattle.go_syntax.specs.declared.operator.Operator.TheVariants as o

abbrev pub number_of : Operator → ℕ
number_of o.Add = 0
number_of o.Sub = 1
number_of o.Mul = 2
number_of o.Div = 3
number_of o.Rem = 4
number_of o.And = 5
number_of o.Or = 6
number_of o.Xor = 7
number_of o.Shl = 8
number_of o.Shr = 9
number_of o.AndNot = 10
number_of o.AddAssign = 11
number_of o.SubAssign = 12
number_of o.MulAssign = 13
number_of o.DivAssign = 14
number_of o.RemAssign = 15
number_of o.AndAssign = 16
number_of o.OrAssign = 17
number_of o.XorAssign = 18
number_of o.ShlAssign = 19
number_of o.ShrAssign = 20
number_of o.AndNotAssign = 21
number_of o.AndThen = 22
number_of o.OrElse = 23
number_of o.Arrow = 24
number_of o.Increment = 25
number_of o.Decrement = 26
number_of o.Eq = 27
number_of o.Lt = 28
number_of o.Gt = 29
number_of o.Assign = 30
number_of o.Not = 31
number_of o.Ne = 32
number_of o.Le = 33
number_of o.Ge = 34
number_of o.Define = 35
number_of o.Ellipsis = 36
number_of o.LeftParen = 37
number_of o.RightParen = 38
number_of o.LeftBracket = 39
number_of o.RightBracket = 40
number_of o.LeftBrace = 41
number_of o.RightBrace = 42
number_of o.Comma = 43
number_of o.Dot = 44
number_of o.Colon = 45

-- operators with one number are written alike
abbrev pub NumbersTell : Type 0
NumbersTell = (x y : Operator) → nat_eq (number_of x) (number_of y) ≡ bytes_eq (operator_text y) (operator_text x)
