-- Trees of expressions as a builder makes them: js_tree's, each at offset 0.
use Rattle.std.specs.Prelude.{ℕ, suc, ℤ, pos, negsuc, List, Bool}
use Rattle.js_tree.specs.Script as script
use Rattle.js_tree.specs.Script.{Expr, Exprs, no_exprs, expr}
use Rattle.js_tree.specs.declared.tree.UnaryOp.{UnaryOp}
use Rattle.js_tree.specs.declared.tree.UnaryOp.TheVariants.{Negate}
use Rattle.js_tree.specs.declared.tree.BinaryOp.{BinaryOp}

abbrev pub number : ℕ → Expr
number n = script.number 0 n

abbrev pub string : List ℕ → Expr
string s = script.string 0 s

abbrev pub boolean : Bool → Expr
boolean b = script.boolean 0 b

abbrev pub null : Expr
null = script.null 0

abbrev pub dictionary : Expr
dictionary = script.dictionary 0

abbrev pub name : List ℕ → Expr
name x = script.name 0 x

abbrev pub unary : UnaryOp → Expr → Expr
unary op e = script.unary 0 op e

abbrev pub binary : BinaryOp → Expr → Expr → Expr
binary op a b = script.binary 0 op a b

abbrev pub both : Expr → Expr → Expr
both a b = script.both 0 a b

abbrev pub either : Expr → Expr → Expr
either a b = script.either 0 a b

abbrev pub choice : Expr → Expr → Expr → Expr
choice t a b = script.choice 0 t a b

abbrev pub call : Expr → Exprs → Expr
call f es = script.call 0 f es

abbrev pub index : Expr → Expr → Expr
index e i = script.index 0 e i

abbrev pub length_of : Expr → Expr
length_of e = script.length_of 0 e

abbrev pub pop : Expr → Expr
pop e = script.pop 0 e

abbrev pub char_code_at : Expr → Expr → Expr
char_code_at e i = script.char_code_at 0 e i

abbrev pub substring : Expr → Expr → Expr → Expr
substring e i j = script.substring 0 e i j

abbrev pub array : Exprs → Expr
array es = script.array 0 es

abbrev pub decimal_of : Expr → Expr
decimal_of e = script.decimal_of 0 e

abbrev pub from_char_code : Expr → Expr
from_char_code e = script.from_char_code 0 e

abbrev pub list1 : Expr → Exprs
list1 s = expr s no_exprs

abbrev pub list2 : Expr → Expr → Exprs
list2 s t = expr s (list1 t)

abbrev pub list3 : Expr → Expr → Expr → Exprs
list3 s t u = expr s (list2 t u)

abbrev pub list4 : Expr → Expr → Expr → Expr → Exprs
list4 s t u v = expr s (list3 t u v)

-- a whole number; a negative one is the opposite of a number
abbrev pub whole_tree : ℤ → Expr
whole_tree (pos n) = number n
whole_tree (negsuc n) = unary Negate (number (suc n))
