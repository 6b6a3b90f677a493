use Rattle.std.proofs.Common.{◌≡◌, subst}
use Rattle.go_type.specs.Tree.{Ty, int}
use Rattle.go_type.specs.Levels.{tree_of}
use Rattle.go_type.specs.Table.{places}
use Rattle.go_core.specs.StepNumbers.{less_step}
use Rattle.go_values.specs.ValuesSeen.{value_of}
use Rattle.go_values.specs.OperatorsSeen.{Does}
use Rattle.go_values.proofs.operators.numbers.less_step.Goals as goal

pub returns-in-Some-Int : goal.returns-in-Some-Int
returns-in-Some-Int c =
    let ts = places c.args.c.now.table.now in
    let e : int c.in-Some-Int.field-0-0 ≡ tree_of ts c.args.t = rw c.in-Some-Int.field-0-is at c.in-Some-Int.ensures.tree in
    record {
      value = λ m. subst (λ (u : Ty). Does ts m c.less_numbers.result (less_step c.args.op u (value_of ts c.args.x.now) (value_of ts c.args.y.now) m)) e (c.less_numbers.ensures.value ts m c.in-Some-Int.field-0-0);
    }
