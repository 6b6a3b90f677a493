-- The tree of an operation. Go specification (as of Go 1.17), "Integer operators", "Integer overflow".
use Rattle.std.specs.Prelude.{if◌then◌else◌}
use Rattle.gj_base.specs.declared.kind.Kind.{Kind}
use Rattle.gj_base.specs.declared.kind.Op.{Op}
use Rattle.gj_base.specs.declared.kind.Op.TheVariants as op
use Rattle.js_tree.specs.Script.{Expr}
use Rattle.js_int.specs.Kinds.{has_halves}
use Rattle.js_int.specs.Small.{small_binary_tree, small_unary_tree}
use Rattle.js_int.specs.Wide.{wide_binary_tree, wide_unary_tree}
use Rattle.js_int.specs.Convert.{convert_tree}

abbrev pub own_unary_tree : Op → Kind → Expr → Expr
own_unary_tree o k t = if has_halves k then wide_unary_tree o t else small_unary_tree o k t

abbrev pub unary_tree : Op → Kind → Expr → Expr
unary_tree (op.To to) k t = convert_tree k to t
unary_tree o k t = own_unary_tree o k t

abbrev pub binary_tree : Op → Kind → Expr → Expr → Expr
binary_tree o k s t = if has_halves k then wide_binary_tree o k s t else small_binary_tree o k s t
