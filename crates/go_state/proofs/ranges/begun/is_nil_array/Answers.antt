use Rattle.std.proofs.Common.{◌≡◌, ◌∙◌, ap}
use Rattle.go_type.specs.Tree.{Ty, pointer}
use Rattle.go_type.specs.Levels.{tree_of}
use Rattle.go_type.specs.Table.{places}
use Rattle.go_core.specs.Control.{is_nil_array}
use Rattle.go_values.specs.ValuesSeen.{value_of}
use Rattle.go_state.proofs.ranges.begun.is_nil_array.Goals as goal

pub returns-in-Some-Pointer : goal.returns-in-Some-Pointer
returns-in-Some-Pointer c =
    let ts = places c.args.c.now.table.now in
    let e : pointer (tree_of ts c.in-Some-Pointer.to) ≡ tree_of ts c.args.t = rw c.in-Some-Pointer.field-0-is at c.in-Some-Pointer.ensures.tree in
    record { value = λ p g q. c.is_nil_to.ensures.value p g q ∙ ap (λ (t : Ty). is_nil_array p g t (value_of ts c.args.x.now)) e }
