use Rattle.std.proofs.Common.{◌≡◌, ◌++◌, length}
use Rattle.go_core.specs.Text.{runes, runes_after}
use Rattle.go_values.proofs.values.text.push_runes.Given as goal

abbrev pub invariant-bytes : goal.invariant-bytes
invariant-bytes l = l.codes.items ++ runes_after l.skipped l.rest ≡ l.fn.codes.items ++ runes l.bytes

abbrev pub decreases-bytes : goal.decreases-bytes
decreases-bytes l = length l.rest
