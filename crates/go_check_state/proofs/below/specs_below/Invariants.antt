use Rattle.std.proofs.Common.{length}
use Rattle.go_type.specs.Levels.{SpecsBelow}
use Rattle.go_type.specs.Table.{size}
use Rattle.go_check_state.proofs.below.specs_below.Given as goal

abbrev pub invariant-specs : goal.invariant-specs
invariant-specs l = SpecsBelow (size l.table) l.rest → SpecsBelow (size l.table) l.specs

abbrev pub decreases-specs : goal.decreases-specs
decreases-specs l = length l.rest
