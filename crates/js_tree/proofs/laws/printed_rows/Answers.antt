use Rattle.std.proofs.Common.{refl}
use Rattle.std.specs.Fmt.{digits}
use Rattle.js_tree.specs.Printed.{char_code_at_word, substring_word, dictionary_word, string_word, from_char_code_word, catch_word, preamble}
use Rattle.js_tree.proofs.laws.printed_rows.Goals as goal

pub returns : goal.returns
unfolding digits char_code_at_word substring_word dictionary_word string_word from_char_code_word catch_word preamble
returns c = record {
  rows = record {
    minus_of_a_negated_number = refl;
    minus_of_a_minus = refl;
    minus_of_a_sum = refl;
    other_signs_join = refl;
    left_operands_need_none = refl;
    right_operands_of_one_level = refl;
    equality_binds_tighter_than_and = refl;
    and_of_an_equality = refl;
    a_choice_in_a_choice = refl;
    or_of_ands = refl;
    a_word_between = refl;
    a_number_before_a_dot = refl;
    a_number_before_a_bracket = refl;
    calls_and_indices = refl;
    parts_of_a_string = refl;
    an_operator_before_a_dot = refl;
    texts_of_numbers = refl;
    new_objects = refl;
    bytes_of_a_string = refl;
    a_word_after_return = refl;
    a_sign_after_return = refl;
    a_string_after_throw = refl;
    a_deleted_key = refl;
    a_stored_element = refl;
    a_pushed_value = refl;
    an_else_if = refl;
    a_switch = refl;
    a_try = refl;
    a_script = refl;
    a_name = refl;
    a_name_without_its_sign = refl;
    a_name_with_a_dot = refl;
    the_caught_value_is_only_read = refl;
    the_largest_number = refl;
    a_larger_number = refl;
    a_printable_script = refl;
    as_deep_as_may_be = refl;
    one_too_deep = refl;
    operators_of_a_chain_count = refl;
    parts_of_a_chain_count = refl;
  };
}
