-- Strings, comparisons and constants: what they make of a body's state.
use Rattle.std.specs.Prelude.{ℕ, zero, suc, ◌+◌, ◌-◌, ◌/◌, ◌%◌, ℤ, pos, negsuc, List, [], length, nat_lt, nat_le, Bool, true, false, if◌then◌else◌, codes, Option, Some, None}
use Rattle.gj_base.specs.declared.kind.Kind.{Kind}
use Rattle.gj_base.specs.declared.kind.Op.{Op}
use Rattle.gj_base.specs.declared.kind.Op.TheVariants as op
use Rattle.go_core.specs.CoreTree as core
use Rattle.js_tree.specs.Script.{Expr}
use Rattle.js_tree.specs.declared.tree.UnaryOp.TheVariants.{Not}
use Rattle.js_tree.specs.declared.tree.BinaryOp.{BinaryOp}
use Rattle.js_tree.specs.declared.tree.BinaryOp.TheVariants.{Add, Less, LessEqual, Greater, GreaterEqual, Same, Different}
use Rattle.js_pool.specs.Tree as tree
use Rattle.js_pool.specs.Tree.{number, unary, binary, length_of, char_code_at, name, call, list1, list2}
use Rattle.js_int.specs.Kinds.{has_halves}
use Rattle.js_int.specs.Wide.{pair_tree}
use Rattle.js_facts.specs.Held.{How, truth, text, small, wide, block, other}
use Rattle.js_body.specs.declared.body.Known.TheVariants as known
use Rattle.js_body.specs.State.{State, last_value, popped, pushed, pushed_known, truth_pushed, nil_pushed, number_pushed, panicked, panicked_if, panic_tree, within_tree, index_refused}
use Rattle.js_values.specs.Steps.{on_last, on_two, on_two_after, kind_in}
use Rattle.js_values.specs.Numbers.{lowered, low_or, int_converted}

-- ---- strings

-- whether two strings together are longer than a string may be
abbrev pub long_test : Expr → Expr → Expr
long_test t u = binary Greater (binary Add (length_of t) (length_of u)) (number 268435456)

abbrev pub long_refused : Expr → Expr → State → State
long_refused t u s = panicked_if 6 (long_test t u) s

-- the last two values as one string
abbrev pub concatenated : State → State
concatenated s = on_two_after long_refused (binary Add) s

abbrev pub encoded_tree : Expr → Expr
encoded_tree t = call (name (codes "$encode")) (list1 t)

abbrev pub wide_encoded_tree : Expr → Expr
wide_encoded_tree t = encoded_tree (low_or (number 65533) t)

-- the string of a character
abbrev pub encoded : State → State
encoded s = on_last encoded_tree s

abbrev pub wide_encoded : State → State
wide_encoded s = on_last wide_encoded_tree s

-- a byte of a string at an index of this kind, which is tested first
abbrev pub byte_tree : Kind → Expr → Expr → Expr
byte_tree k t u = char_code_at t (within_tree k u)

abbrev pub byte_refused : Kind → Expr → Expr → State → State
byte_refused k t u s = index_refused k u (length_of t) s

abbrev pub byte_read : Kind → State → State
byte_read k s = on_two_after (byte_refused k) (byte_tree k) s

-- the string of bytes or runes
abbrev pub text_tree : Bool → Expr → Expr
text_tree runes t = call (name (codes "$text")) (list2 t (tree.boolean runes))

-- ---- comparisons

abbrev pub order_of : Op → BinaryOp
order_of op.Lt = Less
order_of op.Le = LessEqual
order_of op.Gt = Greater
order_of _ = GreaterEqual

abbrev pub order_tree : Op → Expr → Expr → Expr
order_tree o t u = binary (order_of o) t u

abbrev pub sameness : Bool → BinaryOp
sameness negated = if negated then Different else Same

abbrev pub same_tree : Bool → Expr → Expr → Expr
same_tree negated t u = binary (sameness negated) t u

abbrev pub equality : Bool → Op
equality negated = if negated then op.Ne else op.Eq

abbrev pub equal_at : Option Kind → Bool → State → State
equal_at (Some k) negated s = lowered (equality negated) k s
equal_at None negated s = on_two (same_tree negated) s

-- whether the last two values are equal, which are numbers, truth values or strings
abbrev pub equal_done : Bool → How → State → State
equal_done negated h s = equal_at (kind_in h) negated s

abbrev pub less_at : Option Kind → Op → State → State
less_at (Some k) o s = lowered o k s
less_at None o s = on_two (order_tree o) s

abbrev pub less_done : Op → How → State → State
less_done o h s = less_at (kind_in h) o s

abbrev pub denied_tree : Bool → Expr → Expr
denied_tree negated t = if negated then unary Not t else t

abbrev pub denied : State → State
denied s = on_last (unary Not) s

-- ---- constants

abbrev pub text_pushed : List ℕ → State → State
text_pushed b s = pushed_known known.Constant (tree.string b) s

-- a string past the limit panics
abbrev pub text_done : List ℕ → State → State
text_done b s =
    if nat_lt 268435456 (length b) then text_pushed [] (panicked (panic_tree 6) s)
    else text_pushed b s

-- a number of 64 bits without sign, or the two's complement of one with a sign
abbrev pub wide_bits : ℤ → ℕ
wide_bits (pos n) = if nat_lt n 18446744073709551616 then n else 0
wide_bits (negsuc n) = if nat_lt n 9223372036854775808 then 18446744073709551615 - n else 0

abbrev pub wide_tree : ℕ → Expr
wide_tree n = pair_tree (number (n / 4294967296)) (number (n % 4294967296))

abbrev pub wide_pushed : ℤ → State → State
wide_pushed n s = pushed (wide_tree (wide_bits n)) s

-- a number of up to 32 bits
abbrev pub small_number : ℤ → ℤ
small_number (pos n) = if nat_le n 4294967296 then pos n else pos 0
small_number (negsuc n) = if nat_lt n 4294967296 then negsuc n else pos 0

abbrev pub number_done : Kind → ℤ → State → State
number_done k n s = if has_halves k then wide_pushed n s else number_pushed (small_number n) s

abbrev pub constant_done : Kind → core.Constant → State → State
constant_done k (core.truth_constant b) s = truth_pushed b s
constant_done k (core.text_constant b) s = text_done b s
constant_done k (core.whole_constant n) s = number_done k n s

-- the zero value of a type whose values are no structs and no arrays
abbrev pub zero_done : How → State → State
zero_done truth s = truth_pushed false s
zero_done text s = text_pushed [] s
zero_done (small k) s = number_pushed (pos 0) s
zero_done (wide k) s = wide_pushed (pos 0) s
zero_done block s = s
zero_done other s = nil_pushed s

-- ---- conversions

abbrev pub is_text : How → Bool
is_text text = true
is_text _ = false

abbrev pub character_encoded : Kind → State → State
character_encoded k s = if has_halves k then wide_encoded s else encoded s

abbrev pub number_converted_at : Option Kind → Kind → How → State → State
number_converted_at (Some to) k h s = int_converted k to s
number_converted_at None k h s = if is_text h then character_encoded k s else s

-- of a number
abbrev pub number_converted : Kind → How → State → State
number_converted k h s = number_converted_at (kind_in h) k h s

abbrev pub converted_at : Option Kind → How → State → State
converted_at (Some k) h s = number_converted k h s
converted_at None h s = s

-- of a number, a truth value or a string to another one
abbrev pub converted : How → How → State → State
converted from to s = converted_at (kind_in from) to s
