use Rattle.std.proofs.Common.{◌∷◌, [], ap, subst}
use Rattle.go_type.specs.declared.table.TypeTable.{TypeTable}
use Rattle.go_type.specs.Levels.{tree_of}
use Rattle.go_type.specs.Table.{places, names}
use Rattle.go_type.specs.Underlying.{underlying}
use Rattle.go_core.specs.CoreView.{program_view}
use Rattle.go_core.specs.Layout.{shape_of}
use Rattle.go_core.specs.Memory as core
use Rattle.go_core.specs.StepInterfaces.{assert_step, failed}
use Rattle.go_values.specs.ValuesSeen.{scalar_of}
use Rattle.go_values.specs.OperatorsSeen.{Does}
use Rattle.go_values.proofs.Steps.{goes}
use Rattle.go_slices.proofs.LevelLemmas.{asserted_other}
use Rattle.go_slices.proofs.composites.interfaces.asserted_scalar.Goals as goal

pub returns-in-Some : goal.returns-in-Some
returns-in-Some c =
    let ts = places c.args.p.now.types in
    record {
      value = λ m.
          goes ts m c.asserted.result _ _
          (ap (λ (x : core.Scalar). assert_step (program_view c.args.p.now) (tree_of ts c.args.to) c.args.ok (x ∷ []) m) (c.in-Some.ensures.value ts))
          (c.asserted.ensures.value m);
    }

pub returns-in-None : goal.returns-in-None
returns-in-None c =
    let ts = places c.args.p.now.types in
    record {
      value = λ m.
          goes ts m c.failed.result _ _
          (asserted_other (program_view c.args.p.now) (tree_of ts c.args.to) c.args.ok m (underlying (names c.args.p.now.types) (tree_of ts c.args.to)) (scalar_of ts c.args.x) (c.in-None.ensures.value ts))
          (subst (λ (u : TypeTable). Does (places u) m c.failed.result (failed c.args.ok (shape_of (names u) (tree_of (places u) c.args.to)) m)) c.requires (c.failed.ensures.value m));
    }
