use Rattle.std.proofs.Common.{refl}
use Rattle.go_grammar.proofs.laws.rows.Goals as goal

pub returns : goal.returns
returns _ = record {
  rows = record {
    and_is_above_plus = refl;
    plus_is_below_and = refl;
    chains_go_from_the_left = refl;
    prefixes_bind_tightest = refl;
    parts_follow = refl;
    names_have_literals = refl;
    conversions_are_received_from = refl;
    dots_go_on_with_types = refl;
    types_have_no_assertion = refl;
    names_end_headers = refl;
    literal_types_go_on_in_headers = refl;
    parentheses_end_the_header = refl;
    arrows_make_types = refl;
    last_semicolons_may_lack = refl;
    last_semicolons_may_stand = refl;
    else_if_is_a_statement = refl;
    labels_have_statements = refl;
    labels_may_end_blocks = refl;
    guards_may_name = refl;
    guards_need_no_name = refl;
    ranges_define = refl;
    selects_have_ways = refl;
    constants_may_repeat = refl;
    files_may_be_empty = refl;
    imports_are_listed = refl;
    parameters_are_as_written = refl;
    receivers_are_parameters = refl;
    operands_are_needed = refl;
    lines_are_told = refl;
    literals_are_told = refl;
    ends_are_told = refl;
    imports_come_first = refl;
    hundred_may_be_open = refl;
    one_more_may_not = refl;
    five_hundred_may_be_chained = refl;
    one_operator_more_may_not = refl;
    else_if_is_no_block = refl;
    one_block_more_may_not = refl;
  };
}
