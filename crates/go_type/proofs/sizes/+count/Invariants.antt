use Rattle.std.proofs.Common.{◌≡◌, ◌+◌, ◌*◌, ◌≤◌, min, length}
use Rattle.go_type.specs.Levels.{fields_of, FieldsBelow}
use Rattle.go_type.specs.Table.{places, names, size}
use Rattle.go_type.specs.Parts.{sum_fields, size_within}
use Rattle.go_type.specs.Memo.{RemembersSizes}
use Rattle.go_type.proofs.sizes.+count.Given as goal

abbrev pub decreases-count : goal.decreases-count
decreases-count l = 3 * l.left

abbrev pub decreases-count_level : goal.decreases-count_level
decreases-count_level l = 3 * l.left + 2

abbrev pub decreases-count_fields : goal.decreases-count_fields
decreases-count_fields l = 3 * l.left + 1

abbrev pub invariant-count_fields-fields : goal.invariant-count_fields-fields
invariant-count_fields-fields l = record {
  rest : min (l.sum + sum_fields (size_within (names l.table) l.left) (fields_of (places l.table) l.rest)) 1048577 ≡ min (sum_fields (size_within (names l.table) l.left) (fields_of (places l.table) l.fields)) 1048577;
  capped : l.sum ≤ 1048577;
  below : FieldsBelow (size l.table) l.rest;
  memo : RemembersSizes 1048577 (names l.table) (places l.table) l.memo.items;
}

abbrev pub decreases-count_fields-fields : goal.decreases-count_fields-fields
decreases-count_fields-fields l = length l.rest
