use Rattle.std.proofs.Common.{◌≡◌, subst}
use Rattle.go_type.specs.Tree.{Ty, int}
use Rattle.go_type.specs.Levels.{tree_of}
use Rattle.go_type.specs.Table.{places, names}
use Rattle.go_core.specs.StepNumbers.{slice_to_text}
use Rattle.go_values.specs.ValuesSeen.{value_of, memory_of}
use Rattle.go_values.specs.OperatorsSeen.{Does}
use Rattle.go_values.proofs.operators.convert.slice_to_text.Goals as goal

pub returns-in-Some-Int : goal.returns-in-Some-Int
returns-in-Some-Int c =
    let w = c.args.c.now.table.now in
    let ts = places w in
    let s = memory_of ts c.args.m.now in
    let e : int c.in-Some-Int.name ≡ tree_of ts c.args.t = rw c.in-Some-Int.field-0-is at c.in-Some-Int.ensures.tree in
    record { value = subst (λ (u : Ty). Does ts s c.text_of_value.result (slice_to_text (names w) u (value_of ts c.args.x.now) s)) e (c.text_of_value.ensures.value ts (names w) c.in-Some-Int.name c.kind_of.ensures.value) }
