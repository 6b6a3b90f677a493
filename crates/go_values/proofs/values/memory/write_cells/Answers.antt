use Rattle.std.proofs.Common.{arith, ap, ◌∙◌, ◌+◌, List, drop}
use Rattle.go_core.specs.Memory.{written}
use Rattle.go_values.specs.ValuesSeen.{value_of}
use Rattle.go_values.specs.declared.values.scalar.Scalar.{Scalar}
use Rattle.go_values.proofs.MemoryLemmas.{write_step, write_end}
use Rattle.go_values.proofs.values.memory.write_cells.Goals as goal

pub scalars-preserved : goal.scalars-preserved
scalars-preserved c = λ ts.
    ap (λ (ys : List Scalar). written (value_of ts ys) (c.args.base + (c.scalars.i + 1)) (value_of ts (drop (c.scalars.i + 1) c.args.xs.now))) c.write_cell.ensures.value
    ∙ write_step ts c.scalars.cells c.args.xs.now c.args.base c.scalars.i c.index-xs-i.result (omega arith) c.index-xs-i.is
    ∙ c.scalars.invariant ts

pub returns : goal.returns
returns c = record {
  value = λ ts. write_end ts c.scalars.cells c.args.xs.now c.args.base c.scalars.i (omega (arith, c.scalars-test.false)) ∙ c.scalars.invariant ts;
}
