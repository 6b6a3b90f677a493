use Rattle.std.proofs.Common.{length}
use Rattle.go_type.specs.Levels.{FieldsBelow}
use Rattle.go_type.specs.Table.{size}
use Rattle.go_check_state.proofs.below.fields_below.Given as goal

abbrev pub invariant-fields : goal.invariant-fields
invariant-fields l = FieldsBelow (size l.table) l.rest → FieldsBelow (size l.table) l.fields

abbrev pub decreases-fields : goal.decreases-fields
decreases-fields l = length l.rest
