use Rattle.std.proofs.Common.{◌≡◌, ℕ, drop}
use Rattle.go_type.specs.Table.{places}
use Rattle.go_core.specs.Assign.{set_global_cells}
use Rattle.go_core.specs.CoreView.{program_view}
use Rattle.go_values.specs.ValuesSeen.{values_of, memory_of}
use Rattle.go_entries.proofs.assign_steps.globals.set_cells.Given as goal

abbrev pub invariant-numbers : goal.invariant-numbers
invariant-numbers l =
    let p = program_view l.p in
    let ts = places l.p.types in
    (g : ℕ) → set_global_cells p g (drop l.i l.numbers) (drop l.i (values_of ts l.xs)) (memory_of ts l.m) ≡ set_global_cells p g l.numbers (values_of ts l.xs) (memory_of ts l.initial.m)
