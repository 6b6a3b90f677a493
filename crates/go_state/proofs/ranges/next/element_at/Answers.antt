use Rattle.std.proofs.Common.{◌∙◌, ◌+◌, ◌*◌, ap, ℕ, List}
use Rattle.go_type.specs.Table.{places}
use Rattle.go_core.specs.Memory.{read_cells}
use Rattle.go_values.specs.ValuesSeen.{value_of, memory_of}
use Rattle.go_values.specs.declared.values.scalar.Scalar.{Scalar}
use Rattle.go_state.proofs.ranges.next.element_at.Goals as goal

pub returns : goal.returns
returns c =
    let ts = places c.args.c.now.table.now in
    let cells = (memory_of ts c.args.m.now).cells in
    let at = c.in_ok-at.ensures.value ∙ ap (λ (k : ℕ). c.args.base + k) c.in_ok-offset.ensures.value in
    record {
      value = λ p g h.
          ap (value_of ts) c.in_ok-value.ensures
          ∙ c.read_cells.ensures.value ts
          ∙ ap (λ (xs : List Scalar). read_cells c.in_ok-at.at c.in_ok-one.one (value_of ts xs)) c.as_slice.ensures.value
          ∙ ap (λ (k : ℕ). read_cells k c.in_ok-one.one cells) at
          ∙ ap (λ (k : ℕ). read_cells (c.args.base + c.args.index * k) k cells) (c.in_ok-one.ensures.value p g h);
    }
