use Rattle.std.proofs.Common.{◌≡◌, ◌+◌, List}
use Rattle.go_type.specs.Tree.{Ty}
use Rattle.go_state.specs.TasksSeen.{cases_view}
use Rattle.go_core.specs.Opened as opened
use Rattle.go_state.specs.TasksSeen.{cases_from}
use Rattle.go_entries.proofs.doing.counts.cases_count.Given as goal

abbrev pub invariant-clauses : goal.invariant-clauses
invariant-clauses l = (ts : List Ty) → l.count + opened.cases_count (cases_from ts l.cases l.i) ≡ opened.cases_count (cases_view ts l.cases)
