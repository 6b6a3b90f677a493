use Rattle.std.proofs.Common.{◌+◌, ◌*◌}
use Rattle.go_values.proofs.layouts.layout.+offset.Given as goal

abbrev pub decreases-offset_at : goal.decreases-offset_at
decreases-offset_at l = 2 * l.left + 1

abbrev pub decreases-named_offset : goal.decreases-named_offset
decreases-named_offset l = 2 * l.left
