use Rattle.std.proofs.Common.{◌∙◌, ◌∷◌, [], sym, ap, List}
use Rattle.go_type.specs.Named.{NamedTy}
use Rattle.go_type.specs.Levels.{tree_of}
use Rattle.go_type.specs.Table.{places, names}
use Rattle.go_core.specs.Layout.{shape_of}
use Rattle.go_core.specs.Memory as core
use Rattle.go_core.specs.StepMemory.{field_step}
use Rattle.go_values.specs.ValuesSeen.{value_of}
use Rattle.go_values.proofs.ScalarLemmas.{pointer_seen}
use Rattle.go_values.proofs.Steps.{goes}
use Rattle.go_entries.proofs.assign_steps.find.in_field.Goals as goal

pub returns : goal.returns
returns c = record {
  value = λ p at m q.
      let w = c.args.c.now.table.now in
      let ts = places w in
      let t = tree_of ts c.args.struct_type in
      let n = c.args.number in
      let x = core.pointer c.args.whole.base ∷ [] in
      c.placed.ensures.value ts m (field_step (shape_of p.names t) n x m)
      (goes ts m c.field_step.result _ (field_step (shape_of (names w) t) n (value_of ts c.in_ok-at.at.now) m)
      (ap (λ (ms : List NamedTy). field_step (shape_of ms t) n x m) q
      ∙ ap (λ (v : core.Value). field_step (shape_of (names w) t) n v m) (sym (c.in_ok-at.ensures.value ts ∙ ap (λ (y : core.Scalar). y ∷ []) (pointer_seen ts c.args.whole.base))))
      (c.field_step.ensures.value m));
}
