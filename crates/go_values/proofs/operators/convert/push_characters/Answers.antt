use Rattle.std.proofs.Common.{arith}
use Rattle.go_values.proofs.Loops.{characters_step, characters_end}
use Rattle.go_values.proofs.operators.convert.push_characters.Goals as goal

pub cells-preserved : goal.cells-preserved
cells-preserved c = λ ts.
    characters_step ts _ _ _ c.args.cells.now c.cells.i c.index-cells-i.result (omega (arith, c.cells-test.true)) c.index-cells-i.is (c.in_ok-push_character.ensures.value ts) (c.cells.invariant ts)

pub returns : goal.returns
returns c = record { value = λ ts. characters_end ts _ _ c.args.cells.now c.cells.i (omega (arith, c.cells-test.false)) (c.cells.invariant ts) }
