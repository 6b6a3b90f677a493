-- The trees of operations on numbers of 64 bits: an array of the high half and the low one.
use Rattle.std.specs.Prelude.{ℕ, List, codes}
use Rattle.gj_base.specs.declared.kind.Kind.{Kind}
use Rattle.gj_base.specs.declared.kind.Op.{Op}
use Rattle.gj_base.specs.declared.kind.Op.TheVariants as op
use Rattle.js_tree.specs.Script.{Expr}
use Rattle.js_tree.specs.declared.tree.UnaryOp.TheVariants.{Complement}
use Rattle.js_tree.specs.declared.tree.BinaryOp.{BinaryOp}
use Rattle.js_tree.specs.declared.tree.BinaryOp.TheVariants.{BitOr, BitAnd, BitXor, ShiftRightUnsigned, Less, LessEqual, Greater, GreaterEqual, Same, Different}
use Rattle.js_pool.specs.Tree.{number, boolean, name, unary, binary, both, either, index, array, call, list2, list3}
use Rattle.js_int.specs.Kinds.{has_sign}

abbrev pub pair_tree : Expr → Expr → Expr
pair_tree high low = array (list2 high low)

-- bits as a half
abbrev pub half_tree : Expr → Expr
half_tree t = binary ShiftRightUnsigned t (number 0)

abbrev pub half_of : ℕ → Expr → Expr
half_of i t = index t (number i)

abbrev pub half_bits_tree : Op → Expr → Expr → Expr
half_bits_tree op.And s t = binary BitAnd s t
half_bits_tree op.Or s t = binary BitOr s t
half_bits_tree op.Xor s t = binary BitXor s t
half_bits_tree op.AndNot s t = binary BitAnd s (unary Complement t)
half_bits_tree _ s t = s

abbrev pub bits_at_tree : Op → ℕ → Expr → Expr → Expr
bits_at_tree o i s t = half_tree (half_bits_tree o (half_of i s) (half_of i t))

abbrev pub wide_bits_tree : Op → Expr → Expr → Expr
wide_bits_tree o s t = pair_tree (bits_at_tree o 0 s t) (bits_at_tree o 1 s t)

abbrev pub compared_at_tree : BinaryOp → ℕ → Expr → Expr → Expr
compared_at_tree o i s t = binary o (half_of i s) (half_of i t)

abbrev pub equal_tree : Expr → Expr → Expr
equal_tree s t = both (compared_at_tree Same 1 s t) (compared_at_tree Same 0 s t)

abbrev pub unequal_tree : Expr → Expr → Expr
unequal_tree s t = either (compared_at_tree Different 1 s t) (compared_at_tree Different 0 s t)

-- a call of a function that must know whether numbers have a sign
abbrev pub signed_call_tree : List ℕ → Kind → Expr → Expr → Expr
signed_call_tree f k s t = call (name f) (list3 s t (boolean (has_sign k)))

abbrev pub ordered_tree : BinaryOp → Kind → Expr → Expr → Expr
ordered_tree o k s t = binary o (signed_call_tree (codes "$cmp64") k s t) (number 0)

abbrev pub wide_compared_tree : Op → Kind → Expr → Expr → Expr
wide_compared_tree op.Eq k s t = equal_tree s t
wide_compared_tree op.Ne k s t = unequal_tree s t
wide_compared_tree op.Lt k s t = ordered_tree Less k s t
wide_compared_tree op.Le k s t = ordered_tree LessEqual k s t
wide_compared_tree op.Gt k s t = ordered_tree Greater k s t
wide_compared_tree _ k s t = ordered_tree GreaterEqual k s t

abbrev pub wide_call_tree : List ℕ → Expr → Expr → Expr
wide_call_tree f s t = call (name f) (list2 s t)

-- an operation on two numbers; the count of a shift has 32 bits
abbrev pub wide_binary_tree : Op → Kind → Expr → Expr → Expr
wide_binary_tree op.Add k s t = wide_call_tree (codes "$add64") s t
wide_binary_tree op.Sub k s t = wide_call_tree (codes "$sub64") s t
wide_binary_tree op.Mul k s t = wide_call_tree (codes "$mul64") s t
wide_binary_tree op.Div k s t = signed_call_tree (codes "$div64") k s t
wide_binary_tree op.Rem k s t = signed_call_tree (codes "$mod64") k s t
wide_binary_tree op.Shl k s t = wide_call_tree (codes "$shl64") s t
wide_binary_tree op.Shr k s t = signed_call_tree (codes "$shr64") k s t
wide_binary_tree op.And k s t = wide_bits_tree op.And s t
wide_binary_tree op.Or k s t = wide_bits_tree op.Or s t
wide_binary_tree op.Xor k s t = wide_bits_tree op.Xor s t
wide_binary_tree op.AndNot k s t = wide_bits_tree op.AndNot s t
wide_binary_tree o k s t = wide_compared_tree o k s t

abbrev pub not_at_tree : ℕ → Expr → Expr
not_at_tree i t = half_tree (unary Complement (half_of i t))

abbrev pub wide_not_tree : Expr → Expr
wide_not_tree t = pair_tree (not_at_tree 0 t) (not_at_tree 1 t)

abbrev pub wide_negated_tree : Expr → Expr
wide_negated_tree t = wide_call_tree (codes "$sub64") (pair_tree (number 0) (number 0)) t

abbrev pub wide_unary_tree : Op → Expr → Expr
wide_unary_tree op.Neg t = wide_negated_tree t
wide_unary_tree op.Compl t = wide_not_tree t
wide_unary_tree _ t = t
