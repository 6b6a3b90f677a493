use Rattle.std.proofs.Common.{◌≡◌, ◌*◌, drop, List}
use Rattle.go_type.specs.Tree.{Ty}
use Rattle.go_core.specs.StepMemory.{with_elements}
use Rattle.go_values.specs.ValuesSeen.{value_of, values_of}
use Rattle.go_slices.proofs.composites.build.put_elements.Given as goal

abbrev pub invariant-elements : goal.invariant-elements
invariant-elements l =
    (ts : List Ty) → with_elements (λ i. i * l.one_size) (drop l.i l.indexes) (drop l.i (values_of ts l.vs)) (value_of ts l.cells)
    ≡ with_elements (λ i. i * l.one_size) l.indexes (values_of ts l.vs) (value_of ts l.fn.cells)
