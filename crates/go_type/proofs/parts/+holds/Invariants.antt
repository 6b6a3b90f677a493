use Rattle.std.proofs.Common.{◌≡◌, ◌+◌, ◌*◌, length}
use Rattle.go_type.specs.Levels.{fields_of, FieldsBelow}
use Rattle.go_type.specs.Table.{places, names, size}
use Rattle.go_type.specs.Parts.{each_field, holds_within}
use Rattle.go_type.specs.Leaf.{leaf_test}
use Rattle.go_type.specs.Memo.{Remembers}
use Rattle.go_type.proofs.parts.+holds.Given as goal

abbrev pub decreases-holds : goal.decreases-holds
decreases-holds l = 3 * l.left

abbrev pub decreases-holds_level : goal.decreases-holds_level
decreases-holds_level l = 3 * l.left + 2

abbrev pub decreases-holds_fields : goal.decreases-holds_fields
decreases-holds_fields l = 3 * l.left + 1

abbrev pub invariant-holds_fields-fields : goal.invariant-holds_fields-fields
invariant-holds_fields-fields l = record {
  rest : each_field (holds_within (leaf_test l.asked) (names l.table) l.left) (fields_of (places l.table) l.rest) ≡ each_field (holds_within (leaf_test l.asked) (names l.table) l.left) (fields_of (places l.table) l.fields);
  below : FieldsBelow (size l.table) l.rest;
  memo : Remembers (leaf_test l.asked) (names l.table) (places l.table) l.memo.items;
}

abbrev pub decreases-holds_fields-fields : goal.decreases-holds_fields-fields
decreases-holds_fields-fields l = length l.rest
