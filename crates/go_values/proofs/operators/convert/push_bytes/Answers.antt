use Rattle.std.proofs.Common.{arith}
use Rattle.go_values.proofs.Loops.{bytes_step, bytes_end}
use Rattle.go_values.proofs.operators.convert.push_bytes.Goals as goal

pub cells-preserved : goal.cells-preserved
cells-preserved c = λ ts.
    bytes_step ts _ _ _ c.args.cells.now c.cells.i c.index-cells-i.result c.in_ok-b.b (omega (arith, c.cells-test.true)) c.index-cells-i.is (c.in_ok-b.ensures.value ts) c.in_ok-push.ensures.items (c.cells.invariant ts)

pub returns : goal.returns
returns c = record { value = λ ts. bytes_end ts _ _ c.args.cells.now c.cells.i (omega (arith, c.cells-test.false)) (c.cells.invariant ts) }
