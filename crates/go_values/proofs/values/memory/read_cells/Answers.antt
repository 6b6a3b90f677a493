use Rattle.std.proofs.Common.{sym, ap, ◌∙◌, List, take, drop}
use Rattle.std.specs.List.{take-map, drop-map}
use Rattle.go_core.specs.Memory as core
use Rattle.go_values.specs.ValuesSeen.{scalar_of, value_of}
use Rattle.go_values.specs.declared.values.scalar.Scalar.{Scalar}
use Rattle.go_values.proofs.values.memory.read_cells.Goals as goal

pub returns : goal.returns
returns c = record {
  value = λ ts.
      ap (value_of ts) (c.at_most.ensures.value ∙ ap (λ (xs : List Scalar). take c.args.count xs) c.from_on.ensures.value)
      ∙ sym (take-map (scalar_of ts) c.args.count (drop c.args.base c.args.cells.now))
      ∙ ap (λ (xs : List core.Scalar). take c.args.count xs) (sym (drop-map (scalar_of ts) c.args.base c.args.cells.now));
}
