use Rattle.std.proofs.Common.{◌∙◌, ◌∷◌, [], sym, ap, subst, true}
use Rattle.go_type.specs.declared.table.TypeTable.{TypeTable}
use Rattle.go_type.specs.Levels.{tree_of}
use Rattle.go_type.specs.Table.{places, names}
use Rattle.go_core.specs.Did.{gives}
use Rattle.go_core.specs.Layout.{shape_of}
use Rattle.go_core.specs.Memory as core
use Rattle.go_core.specs.Memory.{Value}
use Rattle.go_core.specs.StepInterfaces.{failed}
use Rattle.go_core.specs.StepMaps.{with_ok}
use Rattle.go_values.specs.OperatorsSeen.{Does}
use Rattle.go_values.proofs.Steps.{goes}
use Rattle.go_slices.proofs.Steps.{if_true, if_false}
use Rattle.go_slices.proofs.composites.interfaces.asserted_interface.Goals as goal

pub returns-in_ok-value : goal.returns-in_ok-value
returns-in_ok-value c =
    let ts = places c.args.p.now.types in
    let v = c.in_ok-value.ensures.value ts ∙ ap (λ (x : core.Scalar). x ∷ []) (c.interface_value.ensures.value ts) in
    record {
      value = λ m.
          goes ts m c.holds.result _ _
          (if_true _ _ _ (sym c.implements.ensures.value ∙ c.if-implements.true)
          ∙ ap (λ (xs : Value). gives (with_ok c.args.ok xs true) m 1) (sym v))
          (c.holds.ensures.value ts m);
    }

pub returns-else-implements : goal.returns-else-implements
returns-else-implements c = record {
  value = λ m.
      goes (places c.args.p.now.types) m c.failed.result _ _
      (if_false _ _ _ (sym c.implements.ensures.value ∙ c.if-implements.false))
      (subst (λ (u : TypeTable). Does (places u) m c.failed.result (failed c.args.ok (shape_of (names u) (tree_of (places u) c.args.to)) m)) c.requires (c.failed.ensures.value m));
}
