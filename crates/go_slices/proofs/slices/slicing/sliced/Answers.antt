use Rattle.std.proofs.Common.{sym, subst, arith, List}
use Rattle.std.proofs.lemmas.List.{length-map}
use Rattle.go_type.specs.Levels.{tree_of}
use Rattle.go_type.specs.Table.{places, names}
use Rattle.go_core.specs.StepSlices.{sliced}
use Rattle.go_values.specs.ValuesSeen.{scalar_of, value_of, values_of}
use Rattle.go_values.specs.declared.values.scalar.Scalar.{Scalar}
use Rattle.go_values.specs.OperatorsSeen.{Does}
use Rattle.go_values.proofs.Only.{only}
use Rattle.go_slices.specs.SlicesFound.{bounds_by}
use Rattle.go_slices.proofs.SlicedLemmas.{no_part}
use Rattle.go_slices.proofs.slices.slicing.sliced.Goals as goal

pub returns-then-x-eq1 : goal.returns-then-x-eq1
returns-then-x-eq1 c =
    let e = only c.args.x.now c.index-x-0.result (omega (arith, c.if-x-eq1.true)) (omega (arith, c.if-x-eq1.true)) c.index-x-0.is in
    let w = c.args.c.now.table.now in
    let ts = places w in
    record { value = λ m. subst (λ (xs : List Scalar). Does ts m c.sliced_one.result (sliced (names w) (tree_of ts c.args.t) (bounds_by c.args.written (values_of ts c.args.vs.now)) (value_of ts xs) m)) (sym e) (c.sliced_one.ensures.value m) }

pub returns : goal.returns
returns c =
    let w = c.args.c.now.table.now in
    let ts = places w in
    let x = c.args.x.now in
    record {
      value = λ m.
          no_part (names w) (bounds_by c.args.written (values_of ts c.args.vs.now)) m (tree_of ts c.args.t) (value_of ts x)
          (λ e. c.if-x-eq1.false (omega (arith, e, length-map x (scalar_of ts))));
    }
