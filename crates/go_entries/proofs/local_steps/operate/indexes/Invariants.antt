use Rattle.std.proofs.Common.{◌≡◌, ◌++◌, List}
use Rattle.go_type.specs.Tree.{Ty}
use Rattle.go_core.specs.Opened.{indexes_of}
use Rattle.go_state.specs.TasksSeen.{elements_view, elements_from}
use Rattle.go_entries.proofs.local_steps.operate.indexes.Given as goal

abbrev pub invariant-elements : goal.invariant-elements
invariant-elements l = (ts : List Ty) → l.found.items ++ indexes_of (elements_from ts l.elements l.i) ≡ indexes_of (elements_view ts l.elements)
