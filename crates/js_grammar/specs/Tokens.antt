-- Own: what the reader sees at the front of the tokens that are left.
use Rattle.std.specs.Prelude.{ℕ, List, [], ◌∷◌, map, Option, Some, None, Bool, false, if◌then◌else◌, nat_le, ◌&&◌, codes}
use Rattle.js_tree.specs.Lexical.{Token, identifier_name, punctuator, numeric_literal, string_literal, Placed}
use Rattle.js_tree.specs.Scripts.{same_token, sign, op_token}
use Rattle.js_tree.specs.Printed.{op_level}
use Rattle.js_tree.specs.Script.{Expr, binary, both, either}
use Rattle.js_tree.specs.declared.tree.UnaryOp.{UnaryOp}
use Rattle.js_tree.specs.declared.tree.UnaryOp.TheVariants as one
use Rattle.js_tree.specs.declared.tree.BinaryOp.TheVariants as two
use Rattle.js_grammar.specs.Scan.{scan, bytes_of}
use Rattle.js_grammar.specs.declared.scan.Inside.TheVariants.{Plain}
use Rattle.js_grammar.specs.declared.token.Infix.{Infix}
use Rattle.js_grammar.specs.declared.token.Infix.TheVariants as join
use Rattle.js_grammar.specs.declared.token.Lexeme.{Lexeme}
use Rattle.js_grammar.specs.declared.token.Lexeme.TheVariants as lexeme
use Rattle.js_grammar.specs.declared.token.Token as code

abbrev pub lexeme_view : Lexeme → Token
lexeme_view (lexeme.Word w) = identifier_name w.now
lexeme_view (lexeme.Sign w) = punctuator w.now
lexeme_view (lexeme.Number n) = numeric_literal n
lexeme_view (lexeme.Quoted w) = string_literal (bytes_of (scan Plain w.now))

abbrev pub placed : code.Token → Placed
placed t = record { token = lexeme_view t.lexeme; at = t.at }

-- the tokens of the program as those of the grammar
abbrev pub places : List code.Token → List Placed
places = map placed

abbrev pub is_first : Token → List Placed → Bool
is_first x [] = false
is_first x (p ∷ ts) = same_token x p.token

abbrev pub is_second : Token → List Placed → Bool
is_second x [] = false
is_second x (p ∷ ts) = is_first x ts

abbrev pub infix_token : Infix → Token
infix_token (join.Op op) = op_token op
infix_token join.And = sign (codes "&&")
infix_token join.Or = sign (codes "||")

-- 11.5 to 11.11: how tightly an operator binds
abbrev pub infix_level : Infix → ℕ
infix_level (join.Op op) = op_level op
infix_level join.And = 2
infix_level join.Or = 1

abbrev pub joined : Infix → ℕ → Expr → Expr → Expr
joined (join.Op op) at a b = binary at op a b
joined join.And at a b = both at a b
joined join.Or at a b = either at a b

-- the first of these operators that comes first
abbrev pub infix_among : List Infix → List Placed → Option Infix
infix_among [] ts = None
infix_among (i ∷ is) ts = if is_first (infix_token i) ts then Some i else infix_among is ts

abbrev pub one_sign : List Infix
one_sign =
    join.Op two.Add ∷ join.Op two.Subtract ∷ join.Op two.Multiply ∷ join.Op two.Divide ∷ join.Op two.Remainder
    ∷ join.Op two.BitOr ∷ join.Op two.BitAnd ∷ join.Op two.BitXor ∷ []

abbrev pub comparisons : List Infix
comparisons =
    join.Op two.Less ∷ join.Op two.LessEqual ∷ join.Op two.Greater ∷ join.Op two.GreaterEqual ∷ join.Op two.Same
    ∷ join.Op two.Different ∷ join.Op two.In ∷ []

abbrev pub long_signs : List Infix
long_signs =
    join.Op two.ShiftLeft ∷ join.Op two.ShiftRight ∷ join.Op two.ShiftRightUnsigned ∷ join.And ∷ join.Or ∷ []

abbrev pub first_of : Option Infix → Option Infix → Option Infix
first_of (Some i) o = Some i
first_of None o = o

abbrev pub infix_at : List Placed → Option Infix
infix_at ts = first_of (infix_among one_sign ts) (first_of (infix_among comparisons ts) (infix_among long_signs ts))

abbrev pub between : ℕ → ℕ → Option Infix → Option Infix
between least most None = None
between least most (Some i) = if nat_le least (infix_level i) && nat_le (infix_level i) most then Some i else None

abbrev pub sign_at : List Placed → Option UnaryOp
sign_at ts =
    if is_first (sign (codes "-")) ts then Some one.Negate else if is_first (sign (codes "~")) ts then Some one.Complement
    else if is_first (sign (codes "!")) ts then Some one.Not else None
