-- The trees of operations on numbers of up to 32 bits.
use Rattle.std.specs.Prelude.{ℕ, min, Bool, true, false, if◌then◌else◌, nat_lt, Option, Some, None}
use Rattle.gj_base.specs.declared.kind.Kind.{Kind}
use Rattle.gj_base.specs.declared.kind.Kind.TheVariants.{I8, I16, I32, I64, U8, U16, U32, U64}
use Rattle.gj_base.specs.declared.kind.Op.{Op}
use Rattle.gj_base.specs.declared.kind.Op.TheVariants as op
use Rattle.js_tree.specs.Script as script
use Rattle.js_tree.specs.Script.{Expr}
use Rattle.js_tree.specs.declared.tree.UnaryOp.TheVariants.{Negate, Complement}
use Rattle.js_tree.specs.declared.tree.BinaryOp.TheVariants.{Add, Subtract, Multiply, Divide, Remainder, BitOr, BitAnd, BitXor, ShiftLeft, ShiftRight, ShiftRightUnsigned, Less, LessEqual, Greater, GreaterEqual, Same, Different}
use Rattle.js_pool.specs.Tree.{number, unary, binary, choice}
use Rattle.js_int.specs.Kinds.{has_sign}

abbrev pub masked_tree : ℕ → Expr → Expr
masked_tree mask t = binary BitAnd t (number mask)

abbrev pub centred_tree : ℕ → ℕ → Expr → Expr
centred_tree middle mask t = binary Subtract (masked_tree mask (binary Add t (number middle))) (number middle)

abbrev pub unsigned_tree : Expr → Expr
unsigned_tree t = binary ShiftRightUnsigned t (number 0)

abbrev pub signed_tree : Expr → Expr
signed_tree t = binary BitOr t (number 0)

-- a number modulo the kind's width
abbrev pub wrapped_tree : Kind → Expr → Expr
wrapped_tree I8 t = centred_tree 128 255 t
wrapped_tree I16 t = centred_tree 32768 65535 t
wrapped_tree U8 t = masked_tree 255 t
wrapped_tree U16 t = masked_tree 65535 t
wrapped_tree U32 t = unsigned_tree t
wrapped_tree I32 t = signed_tree t
wrapped_tree I64 t = signed_tree t
wrapped_tree U64 t = signed_tree t

abbrev pub low_tree : Expr → Expr
low_tree t = masked_tree 65535 t

abbrev pub high_tree : Expr → Expr
high_tree t = binary ShiftRightUnsigned t (number 16)

abbrev pub product_tree : Expr → Expr → Expr
product_tree s t =
    binary Add
    (binary Multiply (low_tree s) (low_tree t))
    (binary ShiftLeft (binary Add (binary Multiply (high_tree s) (low_tree t)) (binary Multiply (low_tree s) (high_tree t))) (number 16))

abbrev pub multiplied_tree : Kind → Expr → Expr → Expr
multiplied_tree I32 s t = product_tree s t
multiplied_tree U32 s t = product_tree s t
multiplied_tree I8 s t = binary Multiply s t
multiplied_tree I16 s t = binary Multiply s t
multiplied_tree I64 s t = binary Multiply s t
multiplied_tree U8 s t = binary Multiply s t
multiplied_tree U16 s t = binary Multiply s t
multiplied_tree U64 s t = binary Multiply s t

abbrev pub times_tree : Kind → Expr → Expr → Expr
times_tree k s t = wrapped_tree k (multiplied_tree k s t)

abbrev pub whole_quotient_tree : Expr → Expr → Expr
whole_quotient_tree s t = binary Divide (binary Subtract s (binary Remainder s t)) t

abbrev pub quotient_tree : Kind → Expr → Expr → Expr
quotient_tree k s t = if has_sign k then wrapped_tree k (whole_quotient_tree s t) else whole_quotient_tree s t

-- bits of two numbers: only those of U32 can lose their sign
abbrev pub bits_tree : Kind → Expr → Expr
bits_tree U32 t = unsigned_tree t
bits_tree I8 t = t
bits_tree I16 t = t
bits_tree I32 t = t
bits_tree I64 t = t
bits_tree U8 t = t
bits_tree U16 t = t
bits_tree U64 t = t

abbrev pub bitwise_tree : Op → Expr → Expr → Expr
bitwise_tree op.And s t = binary BitAnd s t
bitwise_tree op.Or s t = binary BitOr s t
bitwise_tree op.Xor s t = binary BitXor s t
bitwise_tree _ s t = binary BitAnd s (unary Complement t)

abbrev pub bits_of_tree : Op → Kind → Expr → Expr → Expr
bits_of_tree o k s t = bits_tree k (bitwise_tree o s t)

-- the number that a constant is
abbrev pub constant_of : Expr → Option ℕ
constant_of (script.number at n) = Some n
constant_of _ = None

abbrev pub few_tree : Expr → Expr
few_tree t = binary Less t (number 32)

abbrev pub shifted_left_tree : Kind → Expr → Expr → Expr
shifted_left_tree k s t = wrapped_tree k (binary ShiftLeft s t)

abbrev pub left_by_tree : Kind → ℕ → Expr → Expr → Expr
left_by_tree k n s t = if nat_lt n 32 then shifted_left_tree k s t else number 0

abbrev pub left_test_tree : Kind → Expr → Expr → Expr
left_test_tree k s t = choice (few_tree t) (shifted_left_tree k s t) (number 0)

abbrev pub left_at_tree : Option ℕ → Kind → Expr → Expr → Expr
left_at_tree (Some n) k s t = left_by_tree k n s t
left_at_tree None k s t = left_test_tree k s t

-- to the left nothing is left past the width
abbrev pub left_tree : Kind → Expr → Expr → Expr
left_tree k s t = left_at_tree (constant_of t) k s t

abbrev pub at_most_31_at : Option ℕ → Expr → Expr
at_most_31_at (Some n) t = number (min n 31)
at_most_31_at None t = choice (few_tree t) t (number 31)

abbrev pub at_most_31_tree : Expr → Expr
at_most_31_tree t = at_most_31_at (constant_of t) t

abbrev pub right_by_tree : ℕ → Expr → Expr → Expr
right_by_tree n s t = if nat_lt n 32 then binary ShiftRightUnsigned s t else number 0

abbrev pub right_test_tree : Expr → Expr → Expr
right_test_tree s t = choice (few_tree t) (binary ShiftRightUnsigned s t) (number 0)

abbrev pub right_unsigned_at : Option ℕ → Expr → Expr → Expr
right_unsigned_at (Some n) s t = right_by_tree n s t
right_unsigned_at None s t = right_test_tree s t

abbrev pub right_unsigned_tree : Expr → Expr → Expr
right_unsigned_tree s t = right_unsigned_at (constant_of t) s t

abbrev pub right_signed_tree : Expr → Expr → Expr
right_signed_tree s t = binary ShiftRight s (at_most_31_tree t)

-- to the right the sign is left past the width, or nothing
abbrev pub right_tree : Kind → Expr → Expr → Expr
right_tree k s t = if has_sign k then right_signed_tree s t else right_unsigned_tree s t

-- a comparison of two numbers or two strings
abbrev pub compared_tree : Op → Expr → Expr → Expr
compared_tree op.Eq s t = binary Same s t
compared_tree op.Ne s t = binary Different s t
compared_tree op.Lt s t = binary Less s t
compared_tree op.Le s t = binary LessEqual s t
compared_tree op.Gt s t = binary Greater s t
compared_tree op.Ge s t = binary GreaterEqual s t
compared_tree _ s t = s

abbrev pub small_binary_tree : Op → Kind → Expr → Expr → Expr
small_binary_tree op.Add k s t = wrapped_tree k (binary Add s t)
small_binary_tree op.Sub k s t = wrapped_tree k (binary Subtract s t)
small_binary_tree op.Mul k s t = times_tree k s t
small_binary_tree op.Div k s t = quotient_tree k s t
small_binary_tree op.Rem k s t = binary Remainder s t
small_binary_tree op.And k s t = bits_of_tree op.And k s t
small_binary_tree op.Or k s t = bits_of_tree op.Or k s t
small_binary_tree op.Xor k s t = bits_of_tree op.Xor k s t
small_binary_tree op.AndNot k s t = bits_of_tree op.AndNot k s t
small_binary_tree op.Shl k s t = left_tree k s t
small_binary_tree op.Shr k s t = right_tree k s t
small_binary_tree o k s t = compared_tree o s t

abbrev pub small_not_tree : Kind → Expr → Expr
small_not_tree k t = if has_sign k then unary Complement t else wrapped_tree k (unary Complement t)

abbrev pub small_unary_tree : Op → Kind → Expr → Expr
small_unary_tree op.Neg k t = wrapped_tree k (unary Negate t)
small_unary_tree op.Compl k t = small_not_tree k t
small_unary_tree _ k t = t
