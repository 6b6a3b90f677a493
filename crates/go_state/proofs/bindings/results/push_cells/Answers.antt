use Rattle.std.proofs.Common.{◌∙◌, ◌++◌, ◌∷◌, [], ap, List}
use Rattle.std.proofs.lemmas.List.{map-append}
use Rattle.std.specs.Borrow.{Bor}
use Rattle.go_core.specs.Memory.{Value, read_cells}
use Rattle.go_values.specs.ValuesSeen.{value_of, values_of}
use Rattle.go_values.specs.declared.values.scalar.Scalar.{Scalar}
use Rattle.go_state.proofs.bindings.results.push_cells.Goals as goal

pub returns : goal.returns
returns c =
    let old = c.args.xs.now.items in
    record {
      value = λ ts.
          ap (values_of ts) c.in_ok-push.ensures.items
          ∙ map-append (λ (x : Bor (List Scalar)). value_of ts x.now) old _
          ∙ ap (λ (v : Value). values_of ts old ++ v ∷ [])
          (ap (value_of ts) c.in_ok-copy.ensures
          ∙ c.read_cells-there.ensures.value ts
          ∙ ap (λ (xs : List Scalar). read_cells c.args.base c.args.size (value_of ts xs)) c.as_slice.ensures.value);
    }
