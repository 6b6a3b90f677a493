use Rattle.std.proofs.Common.{◌∙◌, ◌∷◌, ◌+◌, sym, ap, ℕ, List}
use Rattle.std.specs.Prelude.{Some}
use Rattle.go_type.specs.Levels.{tree_of}
use Rattle.go_type.specs.Table.{places, names}
use Rattle.go_type.specs.declared.table.TypeTable.{TypeTable}
use Rattle.go_core.specs.CoreView.{program_view}
use Rattle.go_core.specs.Goroutine.{moved, with_memory}
use Rattle.go_core.specs.Layout as layout
use Rattle.go_core.specs.Layout.{shape_of}
use Rattle.go_core.specs.Memory as core
use Rattle.go_core.specs.Memory.{with_written, read_cells}
use Rattle.go_values.specs.ValuesSeen.{value_of, memory_of}
use Rattle.go_values.specs.declared.values.scalar.Scalar.{Scalar}
use Rattle.go_state.specs.StateSeen.{frame_of}
use Rattle.go_entries.proofs.call_steps.calls.read_into.Goals as goal

pub returns : goal.returns
returns c = record {
  value = λ x g below s.
      let q = program_view c.args.p.now in
      let ts = places c.args.p.now.types in
      let f = frame_of ts x in
      let m = memory_of ts c.args.m.now in
      let own = c.args.own_base in
      let base = c.args.base in
      let w = layout.weight (shape_of q.names (tree_of ts c.args.var.ty)) in
      let size = c.in_ok-size.ensures.value ∙ ap (λ (u : TypeTable). layout.size (shape_of (names u) (tree_of (places u) c.args.var.ty))) c.requires in
      let units = c.in_ok-units.ensures.value ∙ ap (λ (u : TypeTable). layout.weight (shape_of (names u) (tree_of (places u) c.args.var.ty))) c.requires in
      let copied =
      ap (value_of ts) c.in_ok-copy.ensures
      ∙ c.read_cells-there.ensures.value ts
      ∙ ap (λ (xs : List Scalar). read_cells base c.in_ok-size.size (value_of ts xs)) c.as_slice.ensures.value
      ∙ ap (λ (n : ℕ). read_cells base n m.cells) size in
      ap (λ (v : core.Value). Some (with_memory (with_written m own v) (moved g (f ∷ below) (1 + w) s))) (sym copied)
      ∙ ap (λ (v : core.Memory). Some (with_memory v (moved g (f ∷ below) (1 + w) s))) (sym (c.write_value.ensures.value ts))
      ∙ ap (λ (n : ℕ). Some (with_memory (memory_of ts c.write_value.new.m) (moved g (f ∷ below) (1 + n) s))) (sym units);
}
