-- Integers: what operations on the last values make of a body's state.
use Rattle.std.specs.Prelude.{ℕ, ℤ, pos, negsuc, min, Bool, true, false, not, if◌then◌else◌, Option, Some, None}
use Rattle.std.specs.Ordering.{int_eq}
use Rattle.gj_base.specs.declared.kind.Kind.{Kind}
use Rattle.gj_base.specs.declared.kind.Op.{Op}
use Rattle.gj_base.specs.declared.kind.Op.TheVariants as op
use Rattle.go_core.specs.CoreTree as core
use Rattle.js_tree.specs.Script.{Expr}
use Rattle.js_tree.specs.declared.tree.BinaryOp.TheVariants.{Less, GreaterEqual, Same}
use Rattle.js_pool.specs.Tree.{number, binary, both, choice, whole_tree}
use Rattle.js_int.specs.Kinds.{has_sign, has_halves}
use Rattle.js_int.specs.Wide.{half_of}
use Rattle.js_int.specs.Operation.{unary_tree, binary_tree}
use Rattle.js_int.specs.Convert.{convert_tree}
use Rattle.js_body.specs.declared.body.Known.{Known}
use Rattle.js_body.specs.declared.body.Known.TheVariants as known
use Rattle.js_body.specs.State.{State, last_value, panicked_if}
use Rattle.js_values.specs.Steps.{on_last, on_two, by_last}

-- ---- divisors

abbrev pub half_is_zero : ℕ → Expr → Expr
half_is_zero i t = binary Same (half_of i t) (number 0)

abbrev pub zero_test : Kind → Expr → Expr
zero_test k t = if has_halves k then both (half_is_zero 0 t) (half_is_zero 1 t) else binary Same t (number 0)

-- a constant that isn't zero
abbrev pub is_nonzero : Known → Bool
is_nonzero (known.Number n) = not (int_eq n (pos 0))
is_nonzero _ = false

-- a panic where the last value is zero
abbrev pub zero_refused : Kind → State → State
zero_refused k s = if is_nonzero (last_value s).known then s else by_last (zero_test k) (panicked_if 1) s

abbrev pub is_division : Op → Bool
is_division op.Div = true
is_division op.Rem = true
is_division _ = false

abbrev pub guarded : Op → Kind → State → State
guarded o k s = if is_division o then zero_refused k s else s

-- ---- operations

-- on the last two values
abbrev pub lowered : Op → Kind → State → State
lowered o k s = on_two (binary_tree o k) s

-- on the last value
abbrev pub unary_done : Op → Kind → State → State
unary_done o k s = on_last (unary_tree o k) s

-- on the last two values; a divisor isn't zero
abbrev pub binary_done : Op → Kind → State → State
binary_done o k s = lowered o k (guarded o k s)

-- ---- counts of shifts

-- a constant cut to 32 bits, where it isn't negative
abbrev pub constant_count : core.Expr → Option ℤ
constant_count (core.constant t (core.whole_constant (pos n))) = Some (pos (min n 4294967295))
constant_count _ = None

abbrev pub negative_test : Kind → Expr → Expr
negative_test k t = if has_halves k then binary GreaterEqual (half_of 0 t) (number 2147483648) else binary Less t (number 0)

abbrev pub negative_refused : Kind → State → State
negative_refused k s = if has_sign k then by_last (negative_test k) (panicked_if 5) s else s

-- 32 bits of a number of 64 bits; of a greater number this one
abbrev pub low_or : Expr → Expr → Expr
low_or other t = choice (half_is_zero 0 t) (half_of 1 t) other

abbrev pub count_cut : Kind → State → State
count_cut k s = if has_halves k then on_last (low_or (number 4294967295)) s else s

-- the last value as the count of a shift
abbrev pub counted : Kind → State → State
counted k s = count_cut k (negative_refused k s)

-- ---- sizes and bounds

abbrev pub past_tree : Kind → Expr → Expr
past_tree k t =
    if has_sign k then choice (negative_test k t) (whole_tree (negsuc 0)) (number 4294967296) else number 4294967296

abbrev pub size_tree : Kind → Expr → Expr
size_tree k t = low_or (past_tree k t) t

-- the last value as a number
abbrev pub sized : Kind → State → State
sized k s = if has_halves k then on_last (size_tree k) s else s

-- the low 32 bits
abbrev pub low_tree : Kind → Expr → Expr
low_tree k t = if has_halves k then half_of 1 t else t

-- ---- conversions

abbrev pub int_converted : Kind → Kind → State → State
int_converted from to s = on_last (convert_tree from to) s
