use Rattle.std.proofs.Common.{refl}
use Rattle.std.specs.Prelude.{◌≡◌, [], ◌∷◌, ◌++◌, codes, Some}
use Rattle.std.specs.Fmt.{digits}
use Rattle.go_core.specs.MeaningWords.{outcome, units_of, prints, panics_with}
use Rattle.go_core.specs.RowsValues.{sums, quotients, bits, shifts, divisor_zero, remainder_zero, shift_negative, comparisons, only_where_needed, texts, byte_past_the_end, text_bounds, numbers_converted, texts_converted, no_line, hello, assigned, struct_read, called, deferred}
use Rattle.go_core.proofs.meaning.rows_values.Goals as goal

units_of_hello_holds : units_of hello ≡ Some 11
unfolding digits
units_of_hello_holds = refl

units_of_an_assignment_holds : units_of assigned ≡ Some 11
unfolding digits
units_of_an_assignment_holds = refl

units_of_a_struct_holds : units_of struct_read ≡ Some 13
unfolding digits
units_of_a_struct_holds = refl

units_of_a_call_holds : units_of called ≡ Some 15
unfolding digits
units_of_a_call_holds = refl

units_of_a_deferred_call_holds : units_of deferred ≡ Some 11
unfolding digits
units_of_a_deferred_call_holds = refl

sums_wrap_holds : outcome sums [] ≡ prints (codes "-2147483648 1 255\n")
unfolding digits
sums_wrap_holds = refl

quotients_are_truncated_holds : outcome quotients [] ≡ prints (codes "-3 -1 -9223372036854775808 0\n")
unfolding digits
quotients_are_truncated_holds = refl

bits_of_two_complements_holds : outcome bits [] ≡ prints (codes "8 14 -13 4 -1 254 -5\n")
unfolding digits
bits_of_two_complements_holds = refl

shifts_past_the_width_holds : outcome shifts [] ≡ prints (codes "-2147483648 0 -4 -1 25\n")
unfolding digits
shifts_past_the_width_holds = refl

zero_divisor_panics_holds : outcome divisor_zero [] ≡ panics_with [] (codes "runtime error: integer divide by zero")
unfolding digits
zero_divisor_panics_holds = refl

zero_remainder_panics_holds : outcome remainder_zero [] ≡ panics_with [] (codes "runtime error: integer divide by zero")
unfolding digits
zero_remainder_panics_holds = refl

negative_shift_panics_holds : outcome shift_negative [] ≡ panics_with [] (codes "runtime error: negative shift amount")
unfolding digits
negative_shift_panics_holds = refl

comparisons_hold_holds : outcome comparisons [] ≡ prints (codes "true false true false true false false\n")
unfolding digits
comparisons_hold_holds = refl

right_sides_wait_holds : outcome only_where_needed [] ≡ prints (codes "false true true false\n")
unfolding digits
right_sides_wait_holds = refl

texts_are_bytes_holds : outcome texts [] ≡ prints (codes "abc 98 3 el he\n")
unfolding digits
texts_are_bytes_holds = refl

byte_index_panics_holds : outcome byte_past_the_end [] ≡ panics_with [] (codes "runtime error: index out of range [3] with length 3")
unfolding digits
byte_index_panics_holds = refl

text_bounds_panic_holds : outcome text_bounds [] ≡ panics_with [] (codes "runtime error: slice bounds out of range")
unfolding digits
text_bounds_panic_holds = refl

numbers_are_converted_holds : outcome numbers_converted [] ≡ prints (codes "44 -1 4294967295 A " ++ 239 ∷ 191 ∷ 189 ∷ codes "\n")
unfolding digits
numbers_are_converted_holds = refl

texts_are_converted_holds : outcome texts_converted [] ≡ prints (codes "4 3 6 xyz 233 65533\n")
unfolding digits
texts_are_converted_holds = refl

print_puts_nothing_between_holds : outcome no_line [] ≡ prints (codes "a1\n")
unfolding digits
print_puts_nothing_between_holds = refl

pub returns : goal.returns
returns c = record {
  rows = record {
    units_of_hello = units_of_hello_holds;
    units_of_an_assignment = units_of_an_assignment_holds;
    units_of_a_struct = units_of_a_struct_holds;
    units_of_a_call = units_of_a_call_holds;
    units_of_a_deferred_call = units_of_a_deferred_call_holds;
    sums_wrap = sums_wrap_holds;
    quotients_are_truncated = quotients_are_truncated_holds;
    bits_of_two_complements = bits_of_two_complements_holds;
    shifts_past_the_width = shifts_past_the_width_holds;
    zero_divisor_panics = zero_divisor_panics_holds;
    zero_remainder_panics = zero_remainder_panics_holds;
    negative_shift_panics = negative_shift_panics_holds;
    comparisons_hold = comparisons_hold_holds;
    right_sides_wait = right_sides_wait_holds;
    texts_are_bytes = texts_are_bytes_holds;
    byte_index_panics = byte_index_panics_holds;
    text_bounds_panic = text_bounds_panic_holds;
    numbers_are_converted = numbers_are_converted_holds;
    texts_are_converted = texts_are_converted_holds;
    print_puts_nothing_between = print_puts_nothing_between_holds;
  };
}
