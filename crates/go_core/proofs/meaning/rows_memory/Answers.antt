use Rattle.std.proofs.Common.{refl}
use Rattle.std.specs.Prelude.{◌≡◌, [], codes, Some}
use Rattle.std.specs.Fmt.{digits}
use Rattle.go_core.specs.Run.{start}
use Rattle.go_core.specs.MeaningWords.{played, shown_if_ended, outcome, prints, panics_with}
use Rattle.go_core.specs.RowsMemory.{structs_are_copied, pointer_to_a_field, nil_pointer, two_phases, swap, index_in_the_second_phase, negative_index, index_at_the_length, append_in_place, append_anew, with_capacity, copy_overlaps, full_slices, slice_past_the_capacity, slice_of_a_nil_array, negative_size, length_above_the_capacity, negative_map_size, maps, nil_map, blank_fields, news, let_in, empty_variables, tags_converted}
use Rattle.go_core.proofs.meaning.rows_memory.Goals as goal

a_struct_is_copied_holds : outcome structs_are_copied [] ≡ prints (codes "0 2 9 2\n")
unfolding digits
a_struct_is_copied_holds = refl

a_field_stays_in_place_holds : outcome pointer_to_a_field [] ≡ prints (codes "4\n")
unfolding digits
a_field_stays_in_place_holds = refl

nil_pointer_panics_holds : outcome nil_pointer [] ≡ panics_with [] (codes "runtime error: invalid memory address or nil pointer dereference")
unfolding digits
nil_pointer_panics_holds = refl

operands_come_first_holds : outcome two_phases [] ≡ prints (codes "7 2 3 2\n")
unfolding digits
operands_come_first_holds = refl

values_are_swapped_holds : outcome swap [] ≡ prints (codes "2 1\n")
unfolding digits
values_are_swapped_holds = refl

index_is_checked_late_holds : outcome index_in_the_second_phase [] ≡ panics_with (codes "right side\n") (codes "runtime error: index out of range [3] with length 3")
unfolding digits
index_is_checked_late_holds = refl

negative_index_panics_holds : outcome negative_index [] ≡ panics_with [] (codes "runtime error: index out of range [-1]")
unfolding digits
negative_index_panics_holds = refl

index_at_the_length_panics_holds : outcome index_at_the_length [] ≡ panics_with [] (codes "runtime error: index out of range [3] with length 3")
unfolding digits
index_at_the_length_panics_holds = refl

appends_share_an_array_holds : outcome append_in_place [] ≡ prints (codes "2 2 2 4\n")
unfolding digits
appends_share_an_array_holds = refl

append_grows_holds : outcome append_anew [] ≡ prints (codes "9 1 3 3 3\n")
unfolding digits
append_grows_holds = refl

append_grows_more_holds : shown_if_ended (played append_anew [] (with_capacity 10) 80 (Some (start append_anew []))) ≡ prints (codes "9 1 3 3 10\n")
unfolding digits
append_grows_more_holds = refl

append_holds_what_it_needs_holds : shown_if_ended (played append_anew [] (with_capacity 2) 80 (Some (start append_anew []))) ≡ prints (codes "9 1 3 3 3\n")
unfolding digits
append_holds_what_it_needs_holds = refl

copy_is_at_once_holds : outcome copy_overlaps [] ≡ prints (codes "2 1 1 2\n")
unfolding digits
copy_is_at_once_holds = refl

slices_have_limits_holds : outcome full_slices [] ≡ prints (codes "1 2 3 true\n")
unfolding digits
slices_have_limits_holds = refl

slice_bounds_panic_holds : outcome slice_past_the_capacity [] ≡ panics_with [] (codes "runtime error: slice bounds out of range")
unfolding digits
slice_bounds_panic_holds = refl

nil_array_has_no_slice_holds : outcome slice_of_a_nil_array [] ≡ panics_with [] (codes "runtime error: invalid memory address or nil pointer dereference")
unfolding digits
nil_array_has_no_slice_holds = refl

negative_size_panics_holds : outcome negative_size [] ≡ panics_with [] (codes "runtime error: size out of range")
unfolding digits
negative_size_panics_holds = refl

length_above_capacity_panics_holds : outcome length_above_the_capacity [] ≡ panics_with [] (codes "runtime error: size out of range")
unfolding digits
length_above_capacity_panics_holds = refl

negative_map_size_panics_holds : outcome negative_map_size [] ≡ panics_with [] (codes "runtime error: size out of range")
unfolding digits
negative_map_size_panics_holds = refl

maps_hold_holds : outcome maps [] ≡ prints (codes "3 2 0 false\n0 1 2\n")
unfolding digits
maps_hold_holds = refl

nil_map_panics_holds : outcome nil_map [] ≡ panics_with (codes "0 0\n") (codes "assignment to entry in nil map")
unfolding digits
nil_map_panics_holds = refl

blank_fields_are_left_out_holds : outcome blank_fields [] ≡ prints (codes "true false\n")
unfolding digits
blank_fields_are_left_out_holds = refl

pointers_are_bases_holds : outcome news [] ≡ prints (codes "4 true false\n")
unfolding digits
pointers_are_bases_holds = refl

values_get_variables_holds : outcome let_in [] ≡ prints (codes "8\n")
unfolding digits
values_get_variables_holds = refl

empty_variables_differ_holds : outcome empty_variables [] ≡ prints (codes "false true\n")
unfolding digits
empty_variables_differ_holds = refl

tags_are_ignored_holds : outcome tags_converted [] ≡ prints (codes "4 8 8 8 8\n")
unfolding digits
tags_are_ignored_holds = refl

pub returns : goal.returns
returns c = record {
  rows = record {
    a_struct_is_copied = a_struct_is_copied_holds;
    a_field_stays_in_place = a_field_stays_in_place_holds;
    nil_pointer_panics = nil_pointer_panics_holds;
    operands_come_first = operands_come_first_holds;
    values_are_swapped = values_are_swapped_holds;
    index_is_checked_late = index_is_checked_late_holds;
    negative_index_panics = negative_index_panics_holds;
    index_at_the_length_panics = index_at_the_length_panics_holds;
    appends_share_an_array = appends_share_an_array_holds;
    append_grows = append_grows_holds;
    append_grows_more = append_grows_more_holds;
    append_holds_what_it_needs = append_holds_what_it_needs_holds;
    copy_is_at_once = copy_is_at_once_holds;
    slices_have_limits = slices_have_limits_holds;
    slice_bounds_panic = slice_bounds_panic_holds;
    nil_array_has_no_slice = nil_array_has_no_slice_holds;
    negative_size_panics = negative_size_panics_holds;
    length_above_capacity_panics = length_above_capacity_panics_holds;
    negative_map_size_panics = negative_map_size_panics_holds;
    maps_hold = maps_hold_holds;
    nil_map_panics = nil_map_panics_holds;
    blank_fields_are_left_out = blank_fields_are_left_out_holds;
    pointers_are_bases = pointers_are_bases_holds;
    values_get_variables = values_get_variables_holds;
    empty_variables_differ = empty_variables_differ_holds;
    tags_are_ignored = tags_are_ignored_holds;
  };
}
