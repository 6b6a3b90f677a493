use Rattle.std.proofs.Common.{◌∷◌, [], ap}
use Rattle.go_type.specs.Table.{places, names}
use Rattle.go_core.specs.Memory as core
use Rattle.go_core.specs.StepInterfaces.{basic_step}
use Rattle.go_values.specs.ValuesSeen.{scalar_of}
use Rattle.go_values.proofs.Steps.{goes}
use Rattle.go_slices.proofs.LevelLemmas.{basic_other}
use Rattle.go_slices.proofs.composites.interfaces.basic_scalar.Goals as goal

pub returns-in-Some : goal.returns-in-Some
returns-in-Some c =
    let w = c.args.c.now.table.now in
    let ts = places w in
    record {
      value = λ m.
          goes ts m c.basic_interface.result _ _
          (ap (λ (x : core.Scalar). basic_step (names w) (x ∷ []) m) (c.in-Some.ensures.value ts))
          (c.basic_interface.ensures.value m);
    }

pub returns-in-None : goal.returns-in-None
returns-in-None c =
    let w = c.args.c.now.table.now in
    let ts = places w in
    record {
      value = λ m.
          goes ts m c.gives_one.result _ _
          (basic_other (names w) m (scalar_of ts c.args.x) (c.in-None.ensures.value ts))
          (c.gives_one.ensures.value ts m);
    }
