use Rattle.std.proofs.Common.{refl}
use Rattle.std.specs.Prelude.{◌≡◌, [], codes}
use Rattle.std.specs.Fmt.{digits}
use Rattle.go_core.specs.Goroutine.{exit, fatal}
use Rattle.go_core.specs.MeaningWords.{outcome, prints, ends, panics_with}
use Rattle.go_core.specs.RowsPanics.{deferred_in_order, deferred_operands, recover_sets_the_result, deferred_after_return, panic_in_a_deferred_call, recover_too_deep, recover_without_a_panic, recover_gives_the_value, panic_of_nil, nil_panic_report, deferred_nil, deferred_nil_interface, number_report, truth_report, composite_report, error_report, error_panics, error_of_another_signature, recover_of_a_run_time_panic, exits, fatal_end}
use Rattle.go_core.proofs.meaning.rows_panics.Goals as goal

last_deferred_comes_first_holds : outcome deferred_in_order [] ≡ prints (codes "body\nsecond\nfirst\n")
unfolding digits
last_deferred_comes_first_holds = refl

operands_at_the_statement_holds : outcome deferred_operands [] ≡ prints (codes "2\n1\n")
unfolding digits
operands_at_the_statement_holds = refl

result_is_set_holds : outcome recover_sets_the_result [] ≡ prints (codes "42\n")
unfolding digits
result_is_set_holds = refl

result_is_changed_holds : outcome deferred_after_return [] ≡ prints (codes "6\n")
unfolding digits
result_is_changed_holds = refl

later_panic_is_told_holds : outcome panic_in_a_deferred_call [] ≡ panics_with [] (codes "b")
unfolding digits
later_panic_is_told_holds = refl

too_deep_answers_nil_holds : outcome recover_too_deep [] ≡ panics_with [] (codes "p")
unfolding digits
too_deep_answers_nil_holds = refl

nil_without_a_panic_holds : outcome recover_without_a_panic [] ≡ prints (codes "true\ntrue\n")
unfolding digits
nil_without_a_panic_holds = refl

value_is_answered_holds : outcome recover_gives_the_value [] ≡ prints (codes "deep\nafter\n")
unfolding digits
value_is_answered_holds = refl

nil_is_a_panic_holds : outcome panic_of_nil [] ≡ prints (codes "true\nafter\n")
unfolding digits
nil_is_a_panic_holds = refl

nil_is_told_holds : outcome nil_panic_report [] ≡ panics_with [] (codes "nil")
unfolding digits
nil_is_told_holds = refl

nil_function_in_its_turn_holds : outcome deferred_nil [] ≡ panics_with (codes "body\n") (codes "runtime error: invalid memory address or nil pointer dereference")
unfolding digits
nil_function_in_its_turn_holds = refl

nil_interface_at_once_holds : outcome deferred_nil_interface [] ≡ panics_with [] (codes "runtime error: invalid memory address or nil pointer dereference")
unfolding digits
nil_interface_at_once_holds = refl

number_is_told_holds : outcome number_report [] ≡ panics_with [] (codes "-7")
unfolding digits
number_is_told_holds = refl

truth_is_told_holds : outcome truth_report [] ≡ panics_with [] (codes "true")
unfolding digits
truth_is_told_holds = refl

composite_is_told_holds : outcome composite_report [] ≡ panics_with [] (codes "(value)")
unfolding digits
composite_is_told_holds = refl

error_is_asked_holds : outcome error_report [] ≡ panics_with (codes "deferred\nasked\n") (codes "error e")
unfolding digits
error_is_asked_holds = refl

panic_in_error_holds : outcome error_panics [] ≡ panics_with [] (codes "(panic in Error)")
unfolding digits
panic_in_error_holds = refl

other_error_is_not_asked_holds : outcome error_of_another_signature [] ≡ panics_with [] (codes "e")
unfolding digits
other_error_is_not_asked_holds = refl

run_time_panic_is_a_value_holds : outcome recover_of_a_run_time_panic [] ≡ prints (codes "runtime error: integer divide by zero\nafter\n")
unfolding digits
run_time_panic_is_a_value_holds = refl

status_has_8_bits_holds : outcome exits [] ≡ ends [] (exit 3)
unfolding digits
status_has_8_bits_holds = refl

fatal_is_told_holds : outcome fatal_end [] ≡ ends (codes "x\n") (fatal (codes "sync: unlock of unlocked mutex"))
unfolding digits
fatal_is_told_holds = refl

pub returns : goal.returns
returns c = record {
  rows = record {
    last_deferred_comes_first = last_deferred_comes_first_holds;
    operands_at_the_statement = operands_at_the_statement_holds;
    result_is_set = result_is_set_holds;
    result_is_changed = result_is_changed_holds;
    later_panic_is_told = later_panic_is_told_holds;
    too_deep_answers_nil = too_deep_answers_nil_holds;
    nil_without_a_panic = nil_without_a_panic_holds;
    value_is_answered = value_is_answered_holds;
    nil_is_a_panic = nil_is_a_panic_holds;
    nil_is_told = nil_is_told_holds;
    nil_function_in_its_turn = nil_function_in_its_turn_holds;
    nil_interface_at_once = nil_interface_at_once_holds;
    number_is_told = number_is_told_holds;
    truth_is_told = truth_is_told_holds;
    composite_is_told = composite_is_told_holds;
    error_is_asked = error_is_asked_holds;
    panic_in_error = panic_in_error_holds;
    other_error_is_not_asked = other_error_is_not_asked_holds;
    run_time_panic_is_a_value = run_time_panic_is_a_value_holds;
    status_has_8_bits = status_has_8_bits_holds;
    fatal_is_told = fatal_is_told_holds;
  };
}
