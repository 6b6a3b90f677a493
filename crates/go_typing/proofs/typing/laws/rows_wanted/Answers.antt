use Rattle.std.proofs.Common.{refl}
use Rattle.go_typing.proofs.typing.laws.rows_wanted.Goals as goal

pub returns : goal.returns
returns _ = record {
  rows = record {
    constant_takes_the_type = refl;
    rune_takes_the_type = refl;
    constant_takes_a_named_type = refl;
    text_takes_a_named_type = refl;
    value_of_the_type = refl;
    comparison_takes_a_named_type = refl;
    typed_constant_stays = refl;
    other_integer = refl;
    named_for_unnamed = refl;
    unnamed_for_named = refl;
    number_for_a_string = refl;
    text_for_an_integer = refl;
    truth_for_an_integer = refl;
    comparison_for_an_integer = refl;
    nil_for_an_integer = refl;
    none_round_an_undefined_name = refl;
    none_of_a_lost_name = refl;
    past_uint8 = refl;
    in_parentheses = refl;
    in_uint8 = refl;
    past_int = refl;
    type_for_a_value = refl;
    call_without_results = refl;
    call_with_two_results = refl;
    built_in_for_a_value = refl;
    blank_for_a_value = refl;
    number_is_an_int = refl;
    rune_is_an_int32 = refl;
    text_is_a_string = refl;
    truth_is_a_bool = refl;
    comparison_is_a_bool = refl;
    value_keeps_its_type = refl;
    number_past_int = refl;
    nil_has_no_type = refl;
    type_is_no_value = refl;
    type_by_name = refl;
    type_in_parentheses = refl;
    variable_for_a_type = refl;
    number_for_a_type = refl;
    built_in_for_a_type = refl;
    blank_for_a_type = refl;
    undefined_type = refl;
  };
}
