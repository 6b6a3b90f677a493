-- Rows on panics and ends, worked out by hand: Go specification (as of Go 1.17), "Handling panics", "Defer
-- statements", "Return statements", "Program execution". The reports and fatal ends are own.
use Rattle.std.specs.Prelude.{◌≡◌, ℕ, negsuc, List, [], ◌∷◌, ◌++◌, false, Some, codes}
use Rattle.gj_base.specs.declared.kind.Op.TheVariants as operator
use Rattle.go_type.specs.Tree as ty
use Rattle.go_type.specs.Tree.{Ty, Tys, no_tys, more_tys, no_specs, more_specs, no_fields, more_fields}
use Rattle.go_core.specs.CoreTree as core
use Rattle.go_core.specs.CoreTree.{CoreProgram, CoreFunc, Expr, Stmt, Stmts, no_stmts, no_exprs, expr, Var}
use Rattle.go_core.specs.Goroutine.{exit, fatal}
use Rattle.go_core.specs.MeaningWords.{int, ints, anything, hidden, num, n_, str, yes_, var, say, set, define, call_, run_, var_of, func_of, program, program_with, outcome, prints, ends, panics_with, plus, bin, same, boxed, returns_, defer_, panic_text}
use Rattle.go_type.specs.Named.{NamedTy}
use Rattle.go_core.specs.CoreTree.{MethodRow}

abbrev pub int_results : Tys
int_results = more_tys int no_tys

abbrev pub recovered : Expr
recovered = core.recover_ anything

-- a function that says a text
abbrev pub saying : List ℕ → CoreFunc
saying bytes = func_of [] [] [] [] (say (str bytes ∷ []) ∷ [])

-- the last one that is deferred comes first
abbrev pub deferred_in_order : CoreProgram
deferred_in_order = program (defer_ 2 [] ∷ defer_ 3 [] ∷ say (str (codes "body") ∷ []) ∷ []) (saying (codes "first") ∷ saying (codes "second") ∷ [])

-- operands of a deferred call are evaluated at the statement
abbrev pub deferred_operands : CoreProgram
deferred_operands = program (define 1 int (n_ 1) ++ defer_ 2 (var int 1 ∷ []) ∷ set 1 int (n_ 2) ∷ say (var int 1 ∷ []) ∷ [])
    (func_of (int ∷ []) [] (var_of 10 int ∷ []) [] (say (var int 10 ∷ []) ∷ []) ∷ [])

-- `func f() (r int) { defer func() { recover(); r = 42 }(); panic("x") }`
abbrev pub recover_sets_the_result : CoreProgram
recover_sets_the_result = program (say (call_ 2 int_results [] ∷ []) ∷ [])
    (func_of [] (int ∷ []) (var_of 10 int ∷ []) [] (defer_ 3 [] ∷ panic_text (codes "x") ∷ [])
    ∷ func_of [] [] [] (10 ∷ []) (core.perform recovered 1 ∷ set 10 int (n_ 42) ∷ []) ∷ [])

-- a deferred call changes a result that `return` has set
abbrev pub deferred_after_return : CoreProgram
deferred_after_return = program (say (call_ 2 int_results [] ∷ []) ∷ [])
    (func_of [] (int ∷ []) (var_of 10 int ∷ []) [] (defer_ 3 [] ∷ returns_ (n_ 1 ∷ []) ∷ [])
    ∷ func_of [] [] [] (10 ∷ []) (set 10 int (plus (var int 10) (n_ 5)) ∷ []) ∷ [])

-- `panic("a")` with a deferred `panic("b")`
abbrev pub panic_in_a_deferred_call : CoreProgram
panic_in_a_deferred_call = program (defer_ 2 [] ∷ panic_text (codes "a") ∷ []) (func_of [] [] [] [] (panic_text (codes "b") ∷ []) ∷ [])

-- `func h() { recover() }` in a deferred `func() { h() }`
abbrev pub recover_too_deep : CoreProgram
recover_too_deep = program (defer_ 2 [] ∷ panic_text (codes "p") ∷ [])
    (func_of [] [] [] [] (run_ 3 [] ∷ []) ∷ func_of [] [] [] [] (core.perform recovered 1 ∷ []) ∷ [])

-- nobody panics
abbrev pub recover_without_a_panic : CoreProgram
recover_without_a_panic = program (say (same anything recovered (core.zero_value anything) ∷ []) ∷ defer_ 2 [] ∷ [])
    (func_of [] [] [] [] (say (same anything recovered (core.zero_value anything) ∷ []) ∷ []) ∷ [])

-- a frame below goes on after its call; the value is what was given
abbrev pub recover_gives_the_value : CoreProgram
recover_gives_the_value = program (run_ 2 [] ∷ say (str (codes "after") ∷ []) ∷ [])
    (func_of [] [] [] [] (defer_ 3 [] ∷ run_ 4 [] ∷ say (str (codes "not here") ∷ []) ∷ [])
    ∷ func_of [] [] [] [] (say (core.assert_ ty.str false recovered ∷ []) ∷ [])
    ∷ func_of [] [] [] [] (panic_text (codes "deep") ∷ []) ∷ [])

-- `recover` stops `panic(nil)`, and answers nil
abbrev pub panic_of_nil : CoreProgram
panic_of_nil = program (run_ 2 [] ∷ say (str (codes "after") ∷ []) ∷ [])
    (func_of [] [] [] [] (defer_ 3 [] ∷ core.panic_ (core.zero_value anything) ∷ [])
    ∷ func_of [] [] [] [] (say (same anything recovered (core.zero_value anything) ∷ []) ∷ []) ∷ [])

abbrev pub nil_panic_report : CoreProgram
nil_panic_report = program (core.panic_ (core.zero_value anything) ∷ []) []

-- a deferred nil function panics when its turn comes
abbrev pub no_func : Ty
no_func = ty.func no_tys no_tys false

abbrev pub deferred_nil : CoreProgram
deferred_nil = program (core.defer_call (core.func_value (core.zero_value no_func)) no_exprs ∷ say (str (codes "body") ∷ []) ∷ []) []

abbrev pub deferred_nil_interface : CoreProgram
deferred_nil_interface = program (core.defer_call (core.dynamic (codes "M") [] (core.zero_value (ty.interface (more_specs (codes "M") [] no_tys no_tys false no_specs)))) no_exprs ∷ say (str (codes "not here") ∷ []) ∷ []) []

abbrev pub number_report : CoreProgram
number_report = program (core.panic_ (boxed (num (negsuc 6))) ∷ []) []

abbrev pub truth_report : CoreProgram
truth_report = program (core.panic_ (core.wrap ty.bool anything yes_) ∷ []) []

abbrev pub composite_report : CoreProgram
composite_report = program (core.panic_ (core.wrap ints anything (core.zero_value ints)) ∷ []) []

-- ---- the method `Error`, after all deferred calls: `type E string`

abbrev pub fault : Ty
fault = ty.named 1

abbrev pub fault_name : NamedTy
fault_name = record { name = codes "E"; package_ = codes "main"; under = Some ty.str; methods = [] }

abbrev pub fault_row : MethodRow
fault_row = record { type_ = fault; name = codes "Error"; package_ = []; func = 2 }

abbrev pub of_fault : Stmt
of_fault = core.panic_ (core.wrap fault anything (core.constant fault (core.text_constant (codes "e"))))

abbrev pub error_report : CoreProgram
error_report = program_with (fault_name ∷ []) (fault_row ∷ []) (defer_ 3 [] ∷ of_fault ∷ [])
    (func_of [] (ty.str ∷ []) (var_of 30 fault ∷ var_of 31 ty.str ∷ []) [] (say (str (codes "asked") ∷ []) ∷ returns_ (core.concat ty.str (str (codes "error ")) (core.convert fault ty.str (var fault 30)) ∷ []) ∷ [])
    ∷ saying (codes "deferred") ∷ [])

abbrev pub error_panics : CoreProgram
error_panics = program_with (fault_name ∷ []) (fault_row ∷ []) (of_fault ∷ [])
    (func_of [] (ty.str ∷ []) (var_of 30 fault ∷ var_of 31 ty.str ∷ []) [] (panic_text (codes "again") ∷ []) ∷ [])

-- a method `Error` of another signature doesn't count
abbrev pub error_of_another_signature : CoreProgram
error_of_another_signature = program_with (fault_name ∷ []) (fault_row ∷ []) (of_fault ∷ [])
    (func_of [] (int ∷ []) (var_of 30 fault ∷ var_of 31 int ∷ []) [] (returns_ (n_ 1 ∷ []) ∷ []) ∷ [])

-- a run-time panic in a function that recovers
abbrev pub recover_of_a_run_time_panic : CoreProgram
recover_of_a_run_time_panic = program (run_ 2 [] ∷ say (str (codes "after") ∷ []) ∷ [])
    (func_of [] [] [] [] (defer_ 3 [] ∷ say (bin operator.Div int (n_ 1) (n_ 0) ∷ []) ∷ [])
    ∷ func_of [] [] [] [] (say (core.convert hidden ty.str (core.assert_ hidden false recovered) ∷ []) ∷ []) ∷ [])

abbrev pub exits : CoreProgram
exits = program (defer_ 2 [] ∷ core.exit_ (n_ 259) ∷ say (str (codes "not here") ∷ []) ∷ []) (saying (codes "not here") ∷ [])

abbrev pub fatal_end : CoreProgram
fatal_end = program (say (str (codes "x") ∷ []) ∷ core.fatal_ (str (codes "sync: unlock of unlocked mutex")) ∷ []) []

pub record RowsPanics : Type 0 where
  pub last_deferred_comes_first : outcome deferred_in_order [] ≡ prints (codes "body\nsecond\nfirst\n")
  pub operands_at_the_statement : outcome deferred_operands [] ≡ prints (codes "2\n1\n")
  pub result_is_set : outcome recover_sets_the_result [] ≡ prints (codes "42\n")
  pub result_is_changed : outcome deferred_after_return [] ≡ prints (codes "6\n")
  pub later_panic_is_told : outcome panic_in_a_deferred_call [] ≡ panics_with [] (codes "b")
  pub too_deep_answers_nil : outcome recover_too_deep [] ≡ panics_with [] (codes "p")
  pub nil_without_a_panic : outcome recover_without_a_panic [] ≡ prints (codes "true\ntrue\n")
  pub value_is_answered : outcome recover_gives_the_value [] ≡ prints (codes "deep\nafter\n")
  pub nil_is_a_panic : outcome panic_of_nil [] ≡ prints (codes "true\nafter\n")
  pub nil_is_told : outcome nil_panic_report [] ≡ panics_with [] (codes "nil")
  pub nil_function_in_its_turn : outcome deferred_nil [] ≡ panics_with (codes "body\n") (codes "runtime error: invalid memory address or nil pointer dereference")
  pub nil_interface_at_once : outcome deferred_nil_interface [] ≡ panics_with [] (codes "runtime error: invalid memory address or nil pointer dereference")
  pub number_is_told : outcome number_report [] ≡ panics_with [] (codes "-7")
  pub truth_is_told : outcome truth_report [] ≡ panics_with [] (codes "true")
  pub composite_is_told : outcome composite_report [] ≡ panics_with [] (codes "(value)")
  pub error_is_asked : outcome error_report [] ≡ panics_with (codes "deferred\nasked\n") (codes "error e")
  pub panic_in_error : outcome error_panics [] ≡ panics_with [] (codes "(panic in Error)")
  pub other_error_is_not_asked : outcome error_of_another_signature [] ≡ panics_with [] (codes "e")
  pub run_time_panic_is_a_value : outcome recover_of_a_run_time_panic [] ≡ prints (codes "runtime error: integer divide by zero\nafter\n")
  pub status_has_8_bits : outcome exits [] ≡ ends [] (exit 3)
  pub fatal_is_told : outcome fatal_end [] ≡ ends (codes "x\n") (fatal (codes "sync: unlock of unlocked mutex"))
