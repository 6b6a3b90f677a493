-- Rows on values, worked out by hand: Go specification (as of Go 1.17), "Arithmetic operators", "Comparison
-- operators", "Logical operators", "Conversions", "Index expressions", "Slice expressions".
use Rattle.std.specs.Prelude.{◌≡◌, ℤ, pos, negsuc, List, [], ◌∷◌, ◌++◌, true, false, codes, Some}
use Rattle.gj_base.specs.declared.kind.Op.TheVariants as operator
use Rattle.go_type.specs.declared.types.IntName.TheVariants as integer
use Rattle.go_type.specs.Tree as ty
use Rattle.go_type.specs.Tree.{Ty, Tys, no_tys, more_tys, no_specs, more_specs, no_fields, more_fields}
use Rattle.go_core.specs.CoreTree as core
use Rattle.go_core.specs.CoreTree.{CoreProgram, CoreFunc, Expr, Stmt, Stmts, no_stmts, no_exprs, expr, Var}
use Rattle.go_core.specs.MeaningWords.{int, num, n_, str, yes_, no_, exprs, var, let_var, define, call_, var_of, func_of, returns_, defer_, say, program, outcome, units_of, prints, panics_with, plus, bin, same, below, cell_of}

abbrev pub uint8 : Ty
uint8 = ty.int integer.Uint8

abbrev pub int64 : Ty
int64 = ty.int integer.Int64

abbrev pub uint32 : Ty
uint32 = ty.int integer.Uint32

abbrev pub constant : Ty → ℤ → Expr
constant t n = core.constant t (core.whole_constant n)

abbrev pub bytes : Ty
bytes = ty.slice uint8

abbrev pub runes : Ty
runes = ty.slice (ty.int integer.Int32)

abbrev pub rows_of : List Expr → CoreProgram
rows_of es = program (say es ∷ []) []

abbrev pub conversion : Ty → Ty → Expr → Expr
conversion a b e = core.convert a b e

abbrev pub sums : CoreProgram
sums = rows_of (plus (n_ 2147483647) (n_ 1) ∷ bin operator.Mul uint32 (constant uint32 (pos 4294967295)) (constant uint32 (pos 4294967295)) ∷ bin operator.Sub uint8 (constant uint8 (pos 3)) (constant uint8 (pos 4)) ∷ [])

abbrev pub quotients : CoreProgram
quotients = rows_of (bin operator.Div int (num (negsuc 6)) (n_ 2) ∷ bin operator.Rem int (num (negsuc 6)) (n_ 2) ∷ bin operator.Div int64 (constant int64 (negsuc 9223372036854775807)) (constant int64 (negsuc 0)) ∷ bin operator.Rem int64 (constant int64 (negsuc 9223372036854775807)) (constant int64 (negsuc 0)) ∷ [])

abbrev pub bits : CoreProgram
bits = rows_of (bin operator.And int (n_ 12) (n_ 10) ∷ bin operator.Or int (n_ 12) (n_ 10) ∷ bin operator.Xor int (n_ 12) (num (negsuc 0)) ∷ bin operator.AndNot int (n_ 12) (n_ 10) ∷ core.unary operator.Compl int (n_ 0) ∷ core.unary operator.Compl uint8 (constant uint8 (pos 1)) ∷ core.unary operator.Neg int (n_ 5) ∷ [])

abbrev pub shifts : CoreProgram
shifts = rows_of (bin operator.Shl int (n_ 1) (n_ 31) ∷ bin operator.Shl int (n_ 1) (n_ 40) ∷ bin operator.Shr int (num (negsuc 7)) (n_ 1) ∷ bin operator.Shr int (num (negsuc 7)) (n_ 40) ∷ bin operator.Shr uint8 (constant uint8 (pos 200)) (n_ 3) ∷ [])

abbrev pub divisor_zero : CoreProgram
divisor_zero = rows_of (bin operator.Div int (n_ 1) (n_ 0) ∷ [])

abbrev pub remainder_zero : CoreProgram
remainder_zero = rows_of (bin operator.Rem int (n_ 1) (n_ 0) ∷ [])

abbrev pub shift_negative : CoreProgram
shift_negative = rows_of (bin operator.Shl int (n_ 1) (num (negsuc 0)) ∷ [])

abbrev pub comparisons : CoreProgram
comparisons = rows_of (same int (n_ 2) (n_ 2) ∷ core.equal true int ty.bool (n_ 2) (n_ 2) ∷ below (num (negsuc 0)) (n_ 0) ∷ core.less operator.Ge int ty.bool (n_ 1) (n_ 2) ∷ core.less operator.Le ty.str ty.bool (str (codes "ab")) (str (codes "b")) ∷ core.less operator.Gt ty.str ty.bool (str (codes "a")) (str (codes "aa")) ∷ same ty.str (str (codes "x")) (str (codes "y")) ∷ [])

-- the right side would panic
abbrev pub only_where_needed : CoreProgram
only_where_needed = rows_of (core.and_then ty.bool no_ (same int (bin operator.Div int (n_ 1) (n_ 0)) (n_ 0)) ∷ core.or_else ty.bool yes_ (same int (bin operator.Div int (n_ 1) (n_ 0)) (n_ 0)) ∷ core.and_then ty.bool yes_ (core.not_ ty.bool no_) ∷ core.or_else ty.bool no_ no_ ∷ [])

abbrev pub texts : CoreProgram
texts = rows_of (core.concat ty.str (str (codes "a")) (str (codes "bc")) ∷ core.byte_at (str (codes "abc")) (n_ 1) ∷ core.len ty.str (str (codes "abc")) ∷ core.slice_of ty.str ty.str (str (codes "hello")) (core.bound (n_ 1)) (core.bound (n_ 3)) core.no_bound ∷ core.slice_of ty.str ty.str (str (codes "hello")) core.no_bound (core.bound (n_ 2)) core.no_bound ∷ [])

abbrev pub byte_past_the_end : CoreProgram
byte_past_the_end = rows_of (core.byte_at (str (codes "abc")) (n_ 3) ∷ [])

abbrev pub text_bounds : CoreProgram
text_bounds = rows_of (core.slice_of ty.str ty.str (str (codes "abc")) (core.bound (n_ 2)) (core.bound (n_ 1)) core.no_bound ∷ [])

abbrev pub numbers_converted : CoreProgram
numbers_converted = rows_of (conversion int uint8 (n_ 300) ∷ conversion int int64 (num (negsuc 0)) ∷ conversion int uint32 (num (negsuc 0)) ∷ conversion int ty.str (n_ 65) ∷ conversion int ty.str (num (negsuc 0)) ∷ [])

-- of "a", U+00E9 and a byte that begins no character
abbrev pub mixed : Expr
mixed = str (97 ∷ 195 ∷ 169 ∷ 255 ∷ [])

abbrev pub texts_converted : CoreProgram
texts_converted = rows_of (core.len bytes (conversion ty.str bytes mixed) ∷ core.len runes (conversion ty.str runes mixed) ∷ core.len ty.str (conversion runes ty.str (conversion ty.str runes mixed)) ∷ conversion bytes ty.str (conversion ty.str bytes (str (codes "xyz"))) ∷ cell_of runes (ty.int integer.Int32) (conversion ty.str runes mixed) (n_ 1) ∷ cell_of runes (ty.int integer.Int32) (conversion ty.str runes mixed) (n_ 2) ∷ [])

abbrev pub no_line : CoreProgram
no_line = program (core.print (exprs (str (codes "a") ∷ n_ 1 ∷ [])) false ∷ say [] ∷ []) []

-- ---- units

abbrev pub hello : CoreProgram
hello = program (say (str (codes "hi") ∷ []) ∷ []) []

abbrev pub assigned : CoreProgram
assigned = program (define 1 int (n_ 1)) []

-- `struct { X, Y int }`: two scalars and one struct
abbrev pub point : Ty
point = ty.struct (more_fields (codes "X") [] int false [] (more_fields (codes "Y") [] int false [] no_fields))

abbrev pub struct_read : CoreProgram
struct_read = program (let_var 1 point ∷ core.perform (var point 1) 1 ∷ []) []

-- `f(7)`, where `f` returns its operand
abbrev pub called : CoreProgram
called = program (core.perform (call_ 2 (more_tys int no_tys) (n_ 7 ∷ [])) 1 ∷ [])
    (func_of (int ∷ []) (int ∷ []) (var_of 10 int ∷ var_of 11 int ∷ []) [] (returns_ (var int 10 ∷ []) ∷ []) ∷ [])

-- `defer f()`, where `f` gives a struct
abbrev pub deferred : CoreProgram
deferred = program (defer_ 2 [] ∷ []) (func_of [] (point ∷ []) (var_of 10 point ∷ []) [] (returns_ [] ∷ []) ∷ [])

pub record RowsValues : Type 0 where
  -- the start, the call of `main`, the text (2 more), the line (3 more), the end of `main`, the end
  pub units_of_hello : units_of hello ≡ Some 11
  -- the start, the call, the variable (1 more), the constant (1 more), the store (its place and 1 more), both ends
  pub units_of_an_assignment : units_of assigned ≡ Some 11
  -- the start, the call, the variable (3 more), its place, what lies there (3 more), both ends
  pub units_of_a_struct : units_of struct_read ≡ Some 13
  -- the start, the call, the constant (1 more), the call (2 more), the place, its value (1 more), the return
  -- (1 more), the end of the frame, both ends
  pub units_of_a_call : units_of called ≡ Some 15
  -- the start, the call, the statement (3 more), the call in its turn, its return, the end of its frame, both ends
  pub units_of_a_deferred_call : units_of deferred ≡ Some 11
  pub sums_wrap : outcome sums [] ≡ prints (codes "-2147483648 1 255\n")
  pub quotients_are_truncated : outcome quotients [] ≡ prints (codes "-3 -1 -9223372036854775808 0\n")
  pub bits_of_two_complements : outcome bits [] ≡ prints (codes "8 14 -13 4 -1 254 -5\n")
  pub shifts_past_the_width : outcome shifts [] ≡ prints (codes "-2147483648 0 -4 -1 25\n")
  pub zero_divisor_panics : outcome divisor_zero [] ≡ panics_with [] (codes "runtime error: integer divide by zero")
  pub zero_remainder_panics : outcome remainder_zero [] ≡ panics_with [] (codes "runtime error: integer divide by zero")
  pub negative_shift_panics : outcome shift_negative [] ≡ panics_with [] (codes "runtime error: negative shift amount")
  pub comparisons_hold : outcome comparisons [] ≡ prints (codes "true false true false true false false\n")
  pub right_sides_wait : outcome only_where_needed [] ≡ prints (codes "false true true false\n")
  pub texts_are_bytes : outcome texts [] ≡ prints (codes "abc 98 3 el he\n")
  pub byte_index_panics : outcome byte_past_the_end [] ≡ panics_with [] (codes "runtime error: index out of range [3] with length 3")
  pub text_bounds_panic : outcome text_bounds [] ≡ panics_with [] (codes "runtime error: slice bounds out of range")
  pub numbers_are_converted : outcome numbers_converted [] ≡ prints (codes "44 -1 4294967295 A " ++ 239 ∷ 191 ∷ 189 ∷ codes "\n")
  pub texts_are_converted : outcome texts_converted [] ≡ prints (codes "4 3 6 xyz 233 65533\n")
  pub print_puts_nothing_between : outcome no_line [] ≡ prints (codes "a1\n")
