use Rattle.std.proofs.Common.{◌≡◌, ◌+◌, List}
use Rattle.go_type.specs.Tree.{Ty}
use Rattle.go_core.specs.CoreView.{exprs_view}
use Rattle.go_core.specs.Opened as opened
use Rattle.go_state.specs.TasksSeen.{exprs_from}
use Rattle.go_entries.proofs.doing.counts.values_of.Given as goal

abbrev pub invariant-operands : goal.invariant-operands
invariant-operands l = (ts : List Ty) → l.count + opened.values_of (exprs_from ts l.es l.i) ≡ opened.values_of (exprs_view ts l.es)
