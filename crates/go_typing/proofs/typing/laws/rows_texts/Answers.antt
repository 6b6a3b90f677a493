use Rattle.std.proofs.Common.{refl}
use Rattle.go_typing.proofs.typing.laws.rows_texts.Goals as goal

pub returns : goal.returns
returns _ = record {
  rows = record {
    by_a_constant = refl;
    by_a_variable = refl;
    of_a_named_type = refl;
    of_a_constant = refl;
    by_a_shift = refl;
    by_a_rune = refl;
    negative_index = refl;
    text_as_an_index = refl;
    boolean_as_an_index = refl;
    index_past_int = refl;
    greatest_index = refl;
    index_past_the_end = refl;
    last_index = refl;
    index_after_an_undefined_name = refl;
    index_that_is_a_type = refl;
    integers_have_no_index = refl;
    numbers_have_no_index = refl;
    comparisons_have_no_index = refl;
    no_index_after_an_undefined_name = refl;
    none_round_an_undefined_name = refl;
    types_have_no_index = refl;
    nil_has_no_index = refl;
    between = refl;
    whole_string = refl;
    from_a_variable = refl;
    of_a_constant_string = refl;
    past_the_end = refl;
    negative_bound = refl;
    text_as_a_bound = refl;
    both_bounds = refl;
    bounds_out_of_order = refl;
    bounds_that_are_equal = refl;
    three_bounds = refl;
    slices_of_integers = refl;
    undefined_bounds = refl;
    bound_that_is_a_type = refl;
  };
}
