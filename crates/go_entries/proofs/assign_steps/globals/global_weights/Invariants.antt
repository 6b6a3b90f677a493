use Rattle.std.proofs.Common.{◌≡◌, ◌+◌, ℕ, drop}
use Rattle.go_core.specs.Assign.{global_weights}
use Rattle.go_core.specs.CoreView.{program_view}
use Rattle.go_entries.proofs.assign_steps.globals.global_weights.Given as goal

abbrev pub invariant-numbers : goal.invariant-numbers
invariant-numbers l = (g : ℕ) → l.units + global_weights (program_view l.p) g (drop l.i l.numbers) ≡ global_weights (program_view l.p) g l.numbers
