use Rattle.std.proofs.Common.{refl}
use Rattle.go_typing.proofs.typing.laws.rows_scopes.Goals as goal

pub returns : goal.returns
returns _ = record {
  rows = record {
    outer_name_is_there = refl;
    inner_name_hides = refl;
    outer_name_comes_back = refl;
    outer_name_is_seen_in_a_block = refl;
    predeclared_names_are_hidden = refl;
    other_names_stay = refl;
    conversion_by_a_hidden_name = refl;
    no_name_of_another_package = refl;
    packages_keep_their_names = refl;
    blocks_are_left = refl;
    second_declaration_has_a_place = refl;
    second_declaration_changes_nothing = refl;
    declaration_in_a_block_is_no_second = refl;
    settled_names_change = refl;
    iota_counts = refl;
    iota_ends = refl;
    iota_may_be_hidden = refl;
    blank_is_never_found = refl;
    names_of_operands = refl;
    names_of_a_literal = refl;
  };
}
