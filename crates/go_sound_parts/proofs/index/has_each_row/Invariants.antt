use Rattle.std.proofs.Common.{ℕ, ◌<◌}
use Rattle.go_sound_parts.specs.Index.{IsIndexed}
use Rattle.go_sound_parts.proofs.index.has_each_row.Given as goal

abbrev pub invariant-rows : goal.invariant-rows
invariant-rows l = (k : ℕ) → k < l.i → IsIndexed l.p l.index k
