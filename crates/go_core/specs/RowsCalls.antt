-- Rows on calls, worked out by hand: Go specification (as of Go 1.17), "Calls", "Function literals", "Method
-- values", "Interface types", "Type assertions", "Comparison operators", "Package initialization".
use Rattle.std.specs.Prelude.{◌≡◌, ℕ, pos, List, [], ◌∷◌, ◌++◌, true, false, Some, codes}
use Rattle.gj_base.specs.declared.kind.Op.TheVariants as operator
use Rattle.go_type.specs.Tree as ty
use Rattle.go_type.specs.Tree.{Ty, Tys, no_tys, more_tys, no_specs, more_specs, no_fields, more_fields}
use Rattle.go_core.specs.CoreTree as core
use Rattle.go_core.specs.CoreTree.{CoreProgram, CoreFunc, Expr, Stmt, Stmts, no_stmts, no_exprs, expr, Var}
use Rattle.go_core.specs.Run.{start}
use Rattle.go_core.specs.MeaningWords.{int, ints, anything, n_, str, exprs, var, say, let_var, to_var, set, define, call_, var_of, func_of, program, program_with, candidates, played, shown_if_ended, outcome, prints, panics_with, plus, minus, same, below, if_, boxed, boxed_text, returns_}
use Rattle.go_type.specs.Named.{NamedTy}
use Rattle.go_core.specs.CoreTree.{MethodRow, PackageVar, InitStep, initialise, call_init}

abbrev pub int_results : Tys
int_results = more_tys int no_tys

abbrev pub int_func : Ty
int_func = ty.func no_tys int_results false

-- `func fib(n int) int`
abbrev pub fib : CoreFunc
fib = func_of (int ∷ []) (int ∷ []) (var_of 10 int ∷ var_of 11 int ∷ []) [] (
    if_ (below (var int 10) (n_ 2)) (returns_ (var int 10 ∷ []) ∷ []) []
    ∷ returns_ (plus (call_ 2 int_results (minus (var int 10) (n_ 1) ∷ [])) (call_ 2 int_results (minus (var int 10) (n_ 2) ∷ [])) ∷ [])
    ∷ [])

abbrev pub recursion : CoreProgram
recursion = program (say (call_ 2 int_results (n_ 4 ∷ []) ∷ []) ∷ []) (fib ∷ [])

-- `func f() (int, string)`, printed as it is
abbrev pub two_results : CoreProgram
two_results = program (
    say (call_ 2 (more_tys int (more_tys ty.str no_tys)) [] ∷ []) ∷ [])
    (func_of [] (int ∷ ty.str ∷ []) (var_of 10 int ∷ var_of 11 ty.str ∷ []) [] (returns_ (n_ 1 ∷ str (codes "b") ∷ []) ∷ []) ∷ [])

-- a literal shares the variable that it captures
abbrev pub closures : CoreProgram
closures = program (
    define 1 int (n_ 5)
    ++ define 2 int_func (core.closure int_func 2)
    ++ say (core.call int_results (core.func_value (var int_func 2)) no_exprs ∷ core.call int_results (core.func_value (var int_func 2)) no_exprs ∷ var int 1 ∷ [])
    ∷ say (call_ 2 int_results [] ∷ [])
    ∷ [])
    (func_of [] (int ∷ []) (var_of 20 int ∷ []) (1 ∷ []) (set 1 int (plus (var int 1) (n_ 1)) ∷ returns_ (var int 1 ∷ []) ∷ []) ∷ [])

abbrev pub nil_function : CoreProgram
nil_function = program (let_var 1 int_func ∷ say (core.call int_results (core.func_value (var int_func 1)) no_exprs ∷ []) ∷ []) []

-- ---- methods: `type N int` with `func (n N) Get() int` and `func (n *N) Inc()`

abbrev pub number : Ty
number = ty.named 1

abbrev pub number_name : NamedTy
number_name = record { name = codes "N"; package_ = codes "main"; under = Some int; methods = [] }

abbrev pub get : CoreFunc
get = func_of [] (int ∷ []) (var_of 30 number ∷ var_of 31 int ∷ []) [] (returns_ (core.convert number int (var number 30) ∷ []) ∷ [])

abbrev pub inc : CoreFunc
inc = func_of [] [] (var_of 32 (ty.pointer number) ∷ []) [] (
    core.store (core.to_place number (core.deref (var (ty.pointer number) 32)) ∷ [])
    (exprs (core.binary operator.Add number (core.read number (core.deref (var (ty.pointer number) 32))) (core.constant number (core.whole_constant (pos 1))) ∷ []))
    ∷ [])

abbrev pub row : Ty → List ℕ → ℕ → MethodRow
row t name func = record { type_ = t; name = name; package_ = []; func = func }

-- `Get` and `Inc` are functions 2 and 3; the pointer has both
abbrev pub number_rows : List MethodRow
number_rows = row number (codes "Get") 2 ∷ row (ty.pointer number) (codes "Get") 2 ∷ row (ty.pointer number) (codes "Inc") 3 ∷ []

abbrev pub getter : Ty
getter = ty.interface (more_specs (codes "Get") [] no_tys int_results false no_specs)

abbrev pub with_numbers : List Stmt → CoreProgram
with_numbers ss = program_with (number_name ∷ []) number_rows ss (get ∷ inc ∷ [])

abbrev pub number_pointer : Ty
number_pointer = ty.pointer number

-- `var n N = 4`, `p := &n`
abbrev pub numbers : List Stmt
numbers = define 1 number (core.constant number (core.whole_constant (pos 4))) ++ define 2 number_pointer (core.address number_pointer (core.local_ 1))

abbrev pub get_row : Ty → core.MethodName
get_row t = record { type_ = t; name = codes "Get"; package_ = [] }

abbrev pub get_through : Expr → Expr
get_through e = core.call int_results (core.dynamic (codes "Get") [] e) no_exprs

-- a method of the value is called by its row, by the pointer's row, and through interface values of both
abbrev pub methods : CoreProgram
methods = with_numbers (numbers ++
    core.perform (core.call no_tys (core.method (record { type_ = number_pointer; name = codes "Inc"; package_ = [] })) (exprs (var number_pointer 2 ∷ []))) 0
    ∷ say (core.call int_results (core.method (get_row number)) (exprs (var number 1 ∷ []))
    ∷ core.call int_results (core.method (get_row number_pointer)) (exprs (var number_pointer 2 ∷ []))
    ∷ get_through (core.wrap number getter (var number 1))
    ∷ get_through (core.wrap number_pointer getter (var number_pointer 2))
    ∷ [])
    ∷ [])

-- the receiver is copied where the method value is made
abbrev pub method_values : CoreProgram
method_values = with_numbers (numbers ++
    define 3 int_func (core.bind int_func (get_row number) (var number 1))
    ++ define 4 int_func (core.bind_dynamic int_func (codes "Get") [] (core.wrap number_pointer getter (var number_pointer 2)))
    ++ core.store (core.to_place number (core.local_ 1) ∷ []) (exprs (core.constant number (core.whole_constant (pos 9)) ∷ []))
    ∷ say (core.call int_results (core.func_value (var int_func 3)) no_exprs ∷ core.call int_results (core.func_value (var int_func 4)) no_exprs ∷ [])
    ∷ [])

-- `Get` through an interface value of a nil pointer: the new frame reads its receiver
abbrev pub nil_receiver : CoreProgram
nil_receiver = with_numbers (let_var 2 number_pointer ∷ say (get_through (core.wrap number_pointer getter (var number_pointer 2)) ∷ []) ∷ [])

abbrev pub nil_interface_call : CoreProgram
nil_interface_call = with_numbers (let_var 5 getter ∷ say (get_through (var getter 5) ∷ []) ∷ [])

abbrev pub nil_interface_bound : CoreProgram
nil_interface_bound = with_numbers (let_var 5 getter ∷ define 3 int_func (core.bind_dynamic int_func (codes "Get") [] (var getter 5)))

-- a row whose function takes the pointer, where the row's type is the value: a fresh copy
abbrev pub copied_receiver : CoreProgram
copied_receiver = program_with (number_name ∷ []) (row number (codes "Inc") 2 ∷ []) (
    define 1 number (core.constant number (core.whole_constant (pos 4)))
    ++ core.perform (core.call no_tys (core.method (record { type_ = number; name = codes "Inc"; package_ = [] })) (exprs (var number 1 ∷ []))) 0
    ∷ say (var number 1 ∷ [])
    ∷ []) (inc ∷ [])

-- ---- interface values

abbrev pub assertions : CoreProgram
assertions = with_numbers (numbers ++
    define 3 anything (core.wrap number anything (var number 1))
    ++ let_var 4 int ∷ let_var 5 ty.bool
    ∷ core.store (to_var int 4 ∷ to_var ty.bool 5 ∷ []) (exprs (core.assert_ int true (var anything 3) ∷ []))
    ∷ say (core.assert_ number false (var anything 3) ∷ var int 4 ∷ var ty.bool 5 ∷ get_through (core.assert_ getter false (var anything 3)) ∷ [])
    ∷ say (core.assert_ int false (core.basic anything (var anything 3)) ∷ same anything (core.basic anything (core.zero_value anything)) (core.zero_value anything) ∷ [])
    ∷ say (core.assert_ getter false (boxed (n_ 1)) ∷ [])
    ∷ [])

abbrev pub failed_assertion : CoreProgram
failed_assertion = program (say (core.assert_ ty.str false (boxed (n_ 1)) ∷ []) ∷ []) []

abbrev pub nil_assertion : CoreProgram
nil_assertion = program (say (core.assert_ int false (core.zero_value anything) ∷ []) ∷ []) []

abbrev pub interface_equality : CoreProgram
interface_equality = program (say (
    same anything (boxed (n_ 1)) (boxed (n_ 1)) ∷ same anything (boxed (n_ 1)) (boxed (n_ 2)) ∷ same anything (boxed (n_ 1)) (boxed_text (str (codes "1")))
    ∷ same anything (core.zero_value anything) (core.zero_value anything) ∷ same anything (boxed (n_ 1)) (core.zero_value anything)
    ∷ same anything (core.wrap ints anything (core.zero_value ints)) (boxed (n_ 1)) ∷ []) ∷ []) []

abbrev pub uncomparable : CoreProgram
uncomparable = program (say (same anything (core.wrap ints anything (core.zero_value ints)) (core.wrap ints anything (core.zero_value ints)) ∷ []) ∷ []) []

-- ---- "Package initialization": `var a = b + 1`, `var b = f()`, `func f() int { return c }`, `var c = 7`

abbrev pub package_var : ℕ → core.Bound → PackageVar
package_var n e = record { name = codes "v"; package_ = []; type_ = int; place = record { file = 0; offset = 0 }; initialiser = e; vars = []; number = n; first = n }

abbrev pub global : ℕ → Expr
global n = core.read int (core.global n)

abbrev pub variables : CoreProgram
variables = record (program (say (global 0 ∷ global 1 ∷ global 2 ∷ []) ∷ []) (func_of [] (int ∷ []) (var_of 10 int ∷ []) [] (returns_ (global 2 ∷ []) ∷ []) ∷ func_of [] [] [] [] (say (str (codes "init") ∷ global 0 ∷ []) ∷ core.store (core.to_place int (core.global 0) ∷ []) (exprs (n_ 1 ∷ [])) ∷ []) ∷ [])) {
  globals = package_var 0 (core.bound (plus (global 1) (n_ 1))) ∷ package_var 1 (core.bound (call_ 2 int_results [])) ∷ package_var 2 (core.bound (n_ 7)) ∷ [];
}

abbrev pub need_order : List InitStep
need_order = initialise 2 ∷ initialise 1 ∷ initialise 0 ∷ call_init 3 ∷ []

-- `var a, b = f()`, which one evaluation sets
abbrev pub pair_var : ℕ → core.Bound → PackageVar
pair_var n e = record (package_var n e) { first = 0 }

abbrev pub variables_together : CoreProgram
variables_together = record (program (say (global 0 ∷ global 1 ∷ []) ∷ []) (func_of [] (int ∷ int ∷ []) (var_of 10 int ∷ var_of 11 int ∷ []) [] (returns_ (n_ 3 ∷ n_ 4 ∷ []) ∷ []) ∷ [])) {
  globals = pair_var 0 (core.bound (call_ 2 (more_tys int int_results) [])) ∷ pair_var 1 core.no_bound ∷ [];
}

-- operands from left to right, each variable read when it is reached
abbrev pub left_to_right : CoreProgram
left_to_right = program (
    define 1 int (n_ 5)
    ++ say (var int 1 ∷ call_ 2 int_results [] ∷ var int 1 ∷ [])
    ∷ [])
    (func_of [] (int ∷ []) (var_of 20 int ∷ []) (1 ∷ []) (say (str (codes "called") ∷ []) ∷ set 1 int (n_ 6) ∷ returns_ (n_ 0 ∷ []) ∷ []) ∷ [])

pub record RowsCalls : Type 0 where
  pub functions_call_themselves : outcome recursion [] ≡ prints (codes "3\n")
  pub results_are_given : outcome two_results [] ≡ prints (codes "1 b\n")
  pub captured_variables_are_shared : outcome closures [] ≡ prints (codes "6 7 7\n8\n")
  pub nil_function_panics : outcome nil_function [] ≡ panics_with [] (codes "runtime error: invalid memory address or nil pointer dereference")
  pub methods_are_called : outcome methods [] ≡ prints (codes "5 5 5 5\n")
  pub receivers_are_copied : outcome method_values [] ≡ prints (codes "4 9\n")
  pub nil_receiver_panics : outcome nil_receiver [] ≡ panics_with [] (codes "runtime error: invalid memory address or nil pointer dereference")
  pub nil_interface_panics : outcome nil_interface_call [] ≡ panics_with [] (codes "runtime error: invalid memory address or nil pointer dereference")
  pub nil_interface_has_no_method_value : outcome nil_interface_bound [] ≡ panics_with [] (codes "runtime error: invalid memory address or nil pointer dereference")
  pub receiver_is_a_fresh_copy : outcome copied_receiver [] ≡ prints (codes "4\n")
  pub assertions_hold : outcome assertions [] ≡ panics_with (codes "4 0 false 4\n4 true\n") (codes "interface conversion: wrong dynamic type")
  pub failed_assertion_panics : outcome failed_assertion [] ≡ panics_with [] (codes "interface conversion: wrong dynamic type")
  pub nil_assertion_panics : outcome nil_assertion [] ≡ panics_with [] (codes "interface conversion: wrong dynamic type")
  pub interface_values_are_compared : outcome interface_equality [] ≡ prints (codes "true false false true false false\n")
  pub uncomparable_panics : outcome uncomparable [] ≡ panics_with [] (codes "runtime error: comparing uncomparable type")
  pub variables_by_need : shown_if_ended (played variables [] candidates 150 (Some (start variables need_order))) ≡ prints (codes "init 8\n1 7 7\n")
  pub variables_of_one_evaluation : shown_if_ended (played variables_together [] candidates 150 (Some (start variables_together (initialise 0 ∷ [])))) ≡ prints (codes "3 4\n")
  pub operands_in_order : outcome left_to_right [] ≡ prints (codes "called\n5 0 6\n")
