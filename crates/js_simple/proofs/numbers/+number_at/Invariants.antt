use Rattle.std.proofs.Common.{◌+◌, ◌*◌}
use Rattle.js_simple.proofs.numbers.+number_at.Given as goal

abbrev pub decreases-number_at : goal.decreases-number_at
decreases-number_at l = 3 * l.depth

abbrev pub decreases-array_at : goal.decreases-array_at
decreases-array_at l = 3 * l.depth

abbrev pub decreases-number_of : goal.decreases-number_of
decreases-number_of l = 3 * l.depth + 1

abbrev pub decreases-item_number : goal.decreases-item_number
decreases-item_number l = 3 * l.depth + 1

abbrev pub decreases-item_array : goal.decreases-item_array
decreases-item_array l = 3 * l.depth + 1

abbrev pub decreases-part_number : goal.decreases-part_number
decreases-part_number l = 3 * l.depth + 2

abbrev pub decreases-part_array : goal.decreases-part_array
decreases-part_array l = 3 * l.depth + 2
