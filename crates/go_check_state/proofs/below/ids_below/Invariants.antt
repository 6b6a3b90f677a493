use Rattle.std.proofs.Common.{length}
use Rattle.go_type.specs.Levels.{IdsBelow}
use Rattle.go_type.specs.Table.{size}
use Rattle.go_check_state.proofs.below.ids_below.Given as goal

abbrev pub invariant-ids : goal.invariant-ids
invariant-ids l = IdsBelow (size l.table) l.rest → IdsBelow (size l.table) l.ids

abbrev pub decreases-ids : goal.decreases-ids
decreases-ids l = length l.rest
