use Rattle.std.proofs.Common.{◌≡◌, ◌+◌, ℕ, List, map}
use Rattle.go_type.specs.Tree.{Ty}
use Rattle.go_core.specs.Assign.{target_operands}
use Rattle.go_core.specs.CoreTree.{CoreProgram}
use Rattle.go_core.specs.CoreView.{target_view}
use Rattle.go_state.specs.TasksSeen.{targets_from}
use Rattle.go_entries.proofs.assign_steps.counts.target_operands.Given as goal

abbrev pub invariant-targets : goal.invariant-targets
invariant-targets l =
    (ts : List Ty) (p : CoreProgram) (g : ℕ) → l.count + target_operands p g (targets_from ts l.targets l.i) ≡ target_operands p g (map (target_view ts) l.targets.items.items)
