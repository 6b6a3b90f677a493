use Rattle.std.proofs.Common.{refl}
use Rattle.go_typing.proofs.typing.laws.rows_names.Goals as goal

pub returns : goal.returns
returns _ = record {
  rows = record {
    variables_are_read = refl;
    constants_have_their_type = refl;
    constants_may_have_none = refl;
    true_is_untyped = refl;
    int_is_a_type = refl;
    byte_is_uint8 = refl;
    rune_is_int32 = refl;
    declared_types_are_types = refl;
    nil_has_its_own_type = refl;
    len_is_built_in = refl;
    blank_is_no_value = refl;
    names_are_declared = refl;
    iota_is_of_constants = refl;
    each_name_is_told = refl;
    operands_are_told_first = refl;
    users_of_names_have_no_fault = refl;
    lost_names_are_not_typed = refl;
    lost_names_have_no_fault = refl;
    others_beside_are_told = refl;
    floats_are_left_out = refl;
    parts_of_complex_are_left_out = refl;
    integers_are_there = refl;
    error_is_not_built = refl;
    functions_are_not_values = refl;
    functions_in_parentheses = refl;
    types_of_slices = refl;
    operands_of_address = refl;
    operands_of_star = refl;
    selectors = refl;
    built_in_calls = refl;
    built_in_calls_in_parentheses = refl;
    complex_calls = refl;
    after_another_fault = refl;
    functions_are_called = refl;
    zero = refl;
    decimal = refl;
    binary = refl;
    octal = refl;
    octal_by_zero = refl;
    octal_with_a_mark = refl;
    hexadecimal = refl;
    letters_of_hexadecimal = refl;
    greatest = refl;
    rune_of_a_byte = refl;
    rune_of_two_bytes = refl;
    rune_of_three_bytes = refl;
    rune_of_four_bytes = refl;
    string_of_bytes = refl;
    parentheses_keep = refl;
    parentheses_of_types = refl;
    parentheses_have_no_fault = refl;
  };
}
