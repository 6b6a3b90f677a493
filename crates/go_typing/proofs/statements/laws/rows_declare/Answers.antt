use Rattle.std.proofs.Common.{refl}
use Rattle.go_typing.proofs.statements.laws.rows_declare.Goals as goal

pub returns : goal.returns
returns _ = record {
  rows = record {
    zero = refl;
    with_a_value = refl;
    without_a_type = refl;
    of_a_call = refl;
    of_a_call_with_a_type = refl;
    not_assignable = refl;
    past_its_type = refl;
    two_for_one = refl;
    undefined_type = refl;
    variable_as_a_type = refl;
    type_that_is_not_built = refl;
    unused_of_a_type_that_is_not_built = refl;
    not_used = refl;
    twice = refl;
    twice_in_one = refl;
    again_in_a_block = refl;
    blank_twice = refl;
    nil_value = refl;
    untyped_constant = refl;
    typed_constant = refl;
    no_constant = refl;
    no_constant_of_a_type = refl;
    constant_past_its_type = refl;
    constant_of_another_kind = refl;
    past_128_bits = refl;
    undefined_constant = refl;
    type_as_a_constant = refl;
    call_as_a_constant = refl;
    nil_as_a_constant = refl;
    constants_may_be_unused = refl;
    iota_counts = refl;
    lists_repeat = refl;
    lists_repeat_with_their_type = refl;
    count_of_constants = refl;
    count_beside_what_is_no_type = refl;
    variables_of_what_is_no_type = refl;
    first_list_is_missing = refl;
    constant_twice = refl;
    new_type = refl;
    new_type_is_another = refl;
    alias = refl;
    of_a_named_type = refl;
    of_itself = refl;
    of_an_undefined_type = refl;
    type_twice = refl;
    blank_type = refl;
    blank_type_in_parentheses = refl;
    blank_alias = refl;
    blank_types = refl;
    variable_of_blank_type = refl;
    variable_of_blank = refl;
    constant_of_blank_type = refl;
    constant_of_blank = refl;
  };
}
