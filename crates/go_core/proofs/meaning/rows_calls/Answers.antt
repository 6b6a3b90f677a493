use Rattle.std.proofs.Common.{refl}
use Rattle.std.specs.Prelude.{◌≡◌, [], ◌∷◌, codes, Some}
use Rattle.std.specs.Fmt.{digits}
use Rattle.go_core.specs.Run.{start}
use Rattle.go_core.specs.MeaningWords.{candidates, played, shown_if_ended, outcome, prints, panics_with}
use Rattle.go_core.specs.CoreTree.{initialise}
use Rattle.go_core.specs.RowsCalls.{recursion, two_results, closures, nil_function, methods, method_values, nil_receiver, nil_interface_call, nil_interface_bound, copied_receiver, assertions, failed_assertion, nil_assertion, interface_equality, uncomparable, variables, need_order, variables_together, left_to_right}
use Rattle.go_core.proofs.meaning.rows_calls.Goals as goal

functions_call_themselves_holds : outcome recursion [] ≡ prints (codes "3\n")
unfolding digits
functions_call_themselves_holds = refl

results_are_given_holds : outcome two_results [] ≡ prints (codes "1 b\n")
unfolding digits
results_are_given_holds = refl

captured_variables_are_shared_holds : outcome closures [] ≡ prints (codes "6 7 7\n8\n")
unfolding digits
captured_variables_are_shared_holds = refl

nil_function_panics_holds : outcome nil_function [] ≡ panics_with [] (codes "runtime error: invalid memory address or nil pointer dereference")
unfolding digits
nil_function_panics_holds = refl

methods_are_called_holds : outcome methods [] ≡ prints (codes "5 5 5 5\n")
unfolding digits
methods_are_called_holds = refl

receivers_are_copied_holds : outcome method_values [] ≡ prints (codes "4 9\n")
unfolding digits
receivers_are_copied_holds = refl

nil_receiver_panics_holds : outcome nil_receiver [] ≡ panics_with [] (codes "runtime error: invalid memory address or nil pointer dereference")
unfolding digits
nil_receiver_panics_holds = refl

nil_interface_panics_holds : outcome nil_interface_call [] ≡ panics_with [] (codes "runtime error: invalid memory address or nil pointer dereference")
unfolding digits
nil_interface_panics_holds = refl

nil_interface_has_no_method_value_holds : outcome nil_interface_bound [] ≡ panics_with [] (codes "runtime error: invalid memory address or nil pointer dereference")
unfolding digits
nil_interface_has_no_method_value_holds = refl

receiver_is_a_fresh_copy_holds : outcome copied_receiver [] ≡ prints (codes "4\n")
unfolding digits
receiver_is_a_fresh_copy_holds = refl

assertions_hold_holds : outcome assertions [] ≡ panics_with (codes "4 0 false 4\n4 true\n") (codes "interface conversion: wrong dynamic type")
unfolding digits
assertions_hold_holds = refl

failed_assertion_panics_holds : outcome failed_assertion [] ≡ panics_with [] (codes "interface conversion: wrong dynamic type")
unfolding digits
failed_assertion_panics_holds = refl

nil_assertion_panics_holds : outcome nil_assertion [] ≡ panics_with [] (codes "interface conversion: wrong dynamic type")
unfolding digits
nil_assertion_panics_holds = refl

interface_values_are_compared_holds : outcome interface_equality [] ≡ prints (codes "true false false true false false\n")
unfolding digits
interface_values_are_compared_holds = refl

uncomparable_panics_holds : outcome uncomparable [] ≡ panics_with [] (codes "runtime error: comparing uncomparable type")
unfolding digits
uncomparable_panics_holds = refl

variables_by_need_holds : shown_if_ended (played variables [] candidates 150 (Some (start variables need_order))) ≡ prints (codes "init 8\n1 7 7\n")
unfolding digits
variables_by_need_holds = refl

variables_of_one_evaluation_holds : shown_if_ended (played variables_together [] candidates 150 (Some (start variables_together (initialise 0 ∷ [])))) ≡ prints (codes "3 4\n")
unfolding digits
variables_of_one_evaluation_holds = refl

operands_in_order_holds : outcome left_to_right [] ≡ prints (codes "called\n5 0 6\n")
unfolding digits
operands_in_order_holds = refl

pub returns : goal.returns
returns c = record {
  rows = record {
    functions_call_themselves = functions_call_themselves_holds;
    results_are_given = results_are_given_holds;
    captured_variables_are_shared = captured_variables_are_shared_holds;
    nil_function_panics = nil_function_panics_holds;
    methods_are_called = methods_are_called_holds;
    receivers_are_copied = receivers_are_copied_holds;
    nil_receiver_panics = nil_receiver_panics_holds;
    nil_interface_panics = nil_interface_panics_holds;
    nil_interface_has_no_method_value = nil_interface_has_no_method_value_holds;
    receiver_is_a_fresh_copy = receiver_is_a_fresh_copy_holds;
    assertions_hold = assertions_hold_holds;
    failed_assertion_panics = failed_assertion_panics_holds;
    nil_assertion_panics = nil_assertion_panics_holds;
    interface_values_are_compared = interface_values_are_compared_holds;
    uncomparable_panics = uncomparable_panics_holds;
    variables_by_need = variables_by_need_holds;
    variables_of_one_evaluation = variables_of_one_evaluation_holds;
    operands_in_order = operands_in_order_holds;
  };
}
