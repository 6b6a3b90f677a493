-- The trees of conversions. Go specification, "Conversions between numeric types".
use Rattle.std.specs.Prelude.{if◌then◌else◌}
use Rattle.gj_base.specs.declared.kind.Kind.{Kind}
use Rattle.gj_base.specs.declared.kind.Kind.TheVariants.{I8, I16, I32, I64, U8, U16, U32, U64}
use Rattle.js_tree.specs.Script.{Expr}
use Rattle.js_tree.specs.declared.tree.BinaryOp.TheVariants.{ShiftRightUnsigned, Less}
use Rattle.js_pool.specs.Tree.{number, binary, choice}
use Rattle.js_int.specs.Kinds.{has_sign, has_halves, lies_within}
use Rattle.js_int.specs.Small.{wrapped_tree}
use Rattle.js_int.specs.Wide.{pair_tree, half_of}

abbrev pub signed_halves_tree : Expr → Expr
signed_halves_tree t =
    pair_tree (choice (binary Less t (number 0)) (number 4294967295) (number 0)) (binary ShiftRightUnsigned t (number 0))

-- the halves of a number of up to 32 bits
abbrev pub widened_tree : Kind → Expr → Expr
widened_tree from t = if has_sign from then signed_halves_tree t else pair_tree (number 0) t

-- the low half of a number of 64 bits, modulo the width
abbrev pub narrowed_tree : Kind → Expr → Expr
narrowed_tree U32 t = half_of 1 t
narrowed_tree I8 t = wrapped_tree I8 (half_of 1 t)
narrowed_tree I16 t = wrapped_tree I16 (half_of 1 t)
narrowed_tree I32 t = wrapped_tree I32 (half_of 1 t)
narrowed_tree I64 t = wrapped_tree I64 (half_of 1 t)
narrowed_tree U8 t = wrapped_tree U8 (half_of 1 t)
narrowed_tree U16 t = wrapped_tree U16 (half_of 1 t)
narrowed_tree U64 t = wrapped_tree U64 (half_of 1 t)

abbrev pub from_wide_tree : Kind → Expr → Expr
from_wide_tree to t = if has_halves to then t else narrowed_tree to t

abbrev pub from_small_tree : Kind → Kind → Expr → Expr
from_small_tree from to t =
    if has_halves to then widened_tree from t else if lies_within from to then t else wrapped_tree to t

-- a number of one kind as one of another
abbrev pub convert_tree : Kind → Kind → Expr → Expr
convert_tree from to t = if has_halves from then from_wide_tree to t else from_small_tree from to t
