use Rattle.std.proofs.Common.{◌∙◌, ◌++◌, ap, ℕ}
use Rattle.go_type.specs.Levels.{tree_of}
use Rattle.go_core.specs.Layout.{shape_of}
use Rattle.go_core.specs.Memory.{zeros}
use Rattle.go_core.specs.StepMemory.{repeated}
use Rattle.go_type.specs.Table.{places, names}
use Rattle.go_values.specs.ValuesSeen.{value_of, memory_of}
use Rattle.go_values.proofs.Steps.{goes}
use Rattle.go_slices.proofs.Steps.{made}
use Rattle.go_slices.proofs.slices.append.appended_anew.Goals as goal

pub returns : goal.returns
returns c =
    let w = c.args.c.now.table.now in
    let ts = places w in
    let s = memory_of ts c.args.m.now in
    record { value = goes ts s c.fresh_slice.result _ _ (made _ _ _ s _ _ (c.in_ok-cells.ensures.value ∙ ap (λ (n : ℕ). value_of ts c.args.old.now ++ value_of ts c.args.more.now ++ repeated n (zeros (shape_of (names w) (tree_of ts c.args.t)))) c.saturating_sub.ensures) c.in_ok-units.ensures.value) (c.fresh_slice.ensures.value ts) }
