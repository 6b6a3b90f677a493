use Rattle.std.proofs.Common.{◌≡◌, ◌∷◌, [], subst}
use Rattle.go_type.specs.Tree.{Ty, str}
use Rattle.go_type.specs.Levels.{tree_of}
use Rattle.go_type.specs.Table.{places, names}
use Rattle.go_core.specs.StepSlices.{sliced}
use Rattle.go_values.specs.ValuesSeen.{scalar_of, values_of}
use Rattle.go_values.specs.OperatorsSeen.{Does}
use Rattle.go_slices.specs.SlicesFound.{bounds_by}
use Rattle.go_slices.proofs.slices.slicing.sliced_one.Goals as goal

pub returns-in-Some-Str : goal.returns-in-Some-Str
returns-in-Some-Str c =
    let w = c.args.c.now.table.now in
    let ts = places w in
    let e : str ≡ tree_of ts c.args.t = rw c.in-Some-Str.field-0-is at c.in-Some-Str.ensures.tree in
    record {
      value = λ m. subst (λ (u : Ty). Does ts m c.text_sliced.result (sliced (names w) u (bounds_by c.args.written (values_of ts c.args.vs.now)) (scalar_of ts c.args.x ∷ []) m)) e (c.text_sliced.ensures.value ts (names w) m);
    }
