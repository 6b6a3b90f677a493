use Rattle.std.proofs.Common.{◌≡◌, subst}
use Rattle.go_type.specs.Tree.{Ty, int}
use Rattle.go_type.specs.Levels.{tree_of}
use Rattle.go_type.specs.Table.{places, names}
use Rattle.go_core.specs.StepNumbers.{converted}
use Rattle.go_values.specs.ValuesSeen.{value_of, memory_of}
use Rattle.go_values.specs.OperatorsSeen.{Does}
use Rattle.go_values.proofs.operators.convert.converted.Goals as goal

pub returns-in-Some-Int : goal.returns-in-Some-Int
returns-in-Some-Int c =
    let w = c.args.c.now.table.now in
    let ts = places w in
    let s = memory_of ts c.args.m.now in
    let e : int c.in-Some-Int.field-0-0 ≡ tree_of ts c.args.from = rw c.in-Some-Int.field-0-is at c.in-Some-Int.ensures.tree in
    record {
      value = subst (λ (u : Ty). Does ts s c.from_number.result (converted (names w) u (tree_of ts c.args.to) (value_of ts c.args.x.now) s)) e (c.from_number.ensures.value c.in-Some-Int.field-0-0 s);
    }
