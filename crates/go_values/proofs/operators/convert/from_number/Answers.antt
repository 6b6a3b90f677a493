use Rattle.std.proofs.Common.{◌≡◌, subst}
use Rattle.go_type.specs.Tree.{Ty, int, str}
use Rattle.go_type.specs.Levels.{tree_of}
use Rattle.go_type.specs.Table.{places, names}
use Rattle.go_core.specs.StepNumbers.{converted}
use Rattle.go_values.specs.ValuesSeen.{value_of}
use Rattle.go_values.specs.OperatorsSeen.{Does}
use Rattle.go_values.proofs.operators.convert.from_number.Goals as goal

pub returns-in-Some-Int : goal.returns-in-Some-Int
returns-in-Some-Int c =
    let w = c.args.c.now.table.now in
    let ts = places w in
    let e : int c.in-Some-Int.name ≡ tree_of ts c.args.to = rw c.in-Some-Int.field-0-is at c.in-Some-Int.ensures.tree in
    record {
      value = λ name m. subst (λ (u : Ty). Does ts m c.number_to.result (converted (names w) (int name) u (value_of ts c.args.x.now) m)) e (c.number_to.ensures.value ts (names w) name c.in-Some-Int.name m c.kind_of.ensures.value);
    }

pub returns-in-Some-Str : goal.returns-in-Some-Str
returns-in-Some-Str c =
    let w = c.args.c.now.table.now in
    let ts = places w in
    let e : str ≡ tree_of ts c.args.to = rw c.in-Some-Str.field-0-is at c.in-Some-Str.ensures.tree in
    record {
      value = λ name m. subst (λ (u : Ty). Does ts m c.number_to_text.result (converted (names w) (int name) u (value_of ts c.args.x.now) m)) e (c.number_to_text.ensures.value ts (names w) name m);
    }
