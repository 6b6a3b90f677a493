use Rattle.std.proofs.Common.{refl}
use Rattle.std.specs.Prelude.{◌≡◌, [], ◌∷◌, codes, None}
use Rattle.std.specs.Fmt.{digits}
use Rattle.go_core.specs.MeaningWords.{outcome, prints, panics_with}
use Rattle.go_core.specs.RowsControl.{loop, labels, switches, range_of_an_array, range_of_a_slice, range_of_a_pointer, range_of_no_elements, range_of_a_text, range_of_a_number, range_of_a_map, range_while_deleting, ranged}
use Rattle.go_core.proofs.meaning.rows_control.Goals as goal

loops_go_on_and_end_holds : outcome loop [] ≡ prints (codes "0\n2\nafter 3\n")
unfolding digits
loops_go_on_and_end_holds = refl

labels_lead_holds : outcome labels [] ≡ prints (codes "post 1\npost 2\nin\nout\n")
unfolding digits
labels_lead_holds = refl

clauses_are_chosen_holds : outcome switches [] ≡ prints (codes "one\ntwo\ntwo\ndefault\n\n")
unfolding digits
clauses_are_chosen_holds = refl

array_is_copied_holds : outcome range_of_an_array [] ≡ prints (codes "0 1\n1 2\n2 3\n")
unfolding digits
array_is_copied_holds = refl

length_is_fixed_holds : outcome range_of_a_slice [] ≡ prints (codes "0 1 3\n1 9 4\n")
unfolding digits
length_is_fixed_holds = refl

pointed_array_is_not_copied_holds : outcome range_of_a_pointer [] ≡ panics_with (codes "1\n2\n9\n") (codes "runtime error: invalid memory address or nil pointer dereference")
unfolding digits
pointed_array_is_not_copied_holds = refl

nothing_is_pointed_at_holds : outcome range_of_no_elements [] ≡ prints (codes "end\n")
unfolding digits
nothing_is_pointed_at_holds = refl

characters_are_produced_holds : outcome range_of_a_text [] ≡ prints (codes "0 97\n1 233\n3 65533\n")
unfolding digits
characters_are_produced_holds = refl

numbers_are_counted_holds : outcome range_of_a_number [] ≡ prints (codes "0\n1\n")
unfolding digits
numbers_are_counted_holds = refl

entries_in_one_order_holds : ranged range_of_a_map (0 ∷ 1 ∷ []) ≡ prints (codes "10 1\n20 2\n")
unfolding digits
entries_in_one_order_holds = refl

entries_in_the_other_order_holds : ranged range_of_a_map (1 ∷ 0 ∷ []) ≡ prints (codes "20 2\n10 1\n")
unfolding digits
entries_in_the_other_order_holds = refl

a_new_entry_may_be_produced_holds : ranged range_of_a_map (0 ∷ 2 ∷ 1 ∷ []) ≡ prints (codes "10 1\n30 3\n20 2\n")
unfolding digits
a_new_entry_may_be_produced_holds = refl

no_entry_may_be_passed_over_holds : ranged range_of_a_map (0 ∷ []) ≡ None
unfolding digits
no_entry_may_be_passed_over_holds = refl

a_deleted_entry_is_not_produced_holds : ranged range_while_deleting (0 ∷ 1 ∷ []) ≡ prints (codes "10\n")
unfolding digits
a_deleted_entry_is_not_produced_holds = refl

pub returns : goal.returns
returns c = record {
  rows = record {
    loops_go_on_and_end = loops_go_on_and_end_holds;
    labels_lead = labels_lead_holds;
    clauses_are_chosen = clauses_are_chosen_holds;
    array_is_copied = array_is_copied_holds;
    length_is_fixed = length_is_fixed_holds;
    pointed_array_is_not_copied = pointed_array_is_not_copied_holds;
    nothing_is_pointed_at = nothing_is_pointed_at_holds;
    characters_are_produced = characters_are_produced_holds;
    numbers_are_counted = numbers_are_counted_holds;
    entries_in_one_order = entries_in_one_order_holds;
    entries_in_the_other_order = entries_in_the_other_order_holds;
    a_new_entry_may_be_produced = a_new_entry_may_be_produced_holds;
    no_entry_may_be_passed_over = no_entry_may_be_passed_over_holds;
    a_deleted_entry_is_not_produced = a_deleted_entry_is_not_produced_holds;
  };
}
