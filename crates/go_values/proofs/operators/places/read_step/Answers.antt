use Rattle.std.proofs.Common.{◌∙◌, ◌∷◌, [], refl, sym, ap, ℕ, List}
use Rattle.go_type.specs.Levels.{tree_of}
use Rattle.go_type.specs.Table.{places, names}
use Rattle.go_core.specs.Did.{gives}
use Rattle.go_core.specs.Layout.{shape_of, size}
use Rattle.go_core.specs.Memory.{Value, read_cells}
use Rattle.go_values.specs.ValuesSeen.{value_of, memory_of}
use Rattle.go_values.specs.declared.values.scalar.Scalar.{Scalar}
use Rattle.go_values.proofs.Steps.{stopped}
use Rattle.go_values.proofs.operators.places.read_step.Goals as goal

pub returns-in_err-base : goal.returns-in_err-base
returns-in_err-base c =
    let ts = places c.args.c.now.table.now in
    record { value = stopped ts (memory_of ts c.args.m.now) c.from_residual.result _ _ _ refl c.from_residual.ensures.1 (c.in_err-base.ensures.value ts _) }

pub returns : goal.returns
returns c =
    let w = c.args.c.now.table.now in
    let ts = places w in
    let s = memory_of ts c.args.m.now in
    let base = c.in_ok-base.base in
    let read =
    ap (value_of ts) c.in_ok-value.ensures
    ∙ c.read_cells-cells.ensures.value ts
    ∙ ap (λ (xs : List Scalar). read_cells base c.in_ok-count.count (value_of ts xs)) c.as_slice.ensures.value
    ∙ ap (λ (n : ℕ). read_cells base n s.cells) c.in_ok-count.ensures.value in
    record {
      value =
          c.in_ok-base.ensures.value ts _
          ∙ sym (c.gives_value.ensures.value ts s
          ∙ ap (λ (v : Value). gives (v ∷ []) s c.in_ok-units.units) read
          ∙ ap (λ (n : ℕ). gives (read_cells base (size (shape_of (names w) (tree_of ts c.args.t))) s.cells ∷ []) s n) c.in_ok-units.ensures.value);
    }
