use Rattle.std.proofs.Common.{◌≡◌, ◌∙◌, ◌∷◌, sym, ap, subst, refl}
use Rattle.go_type.specs.Tree.{Ty}
use Rattle.go_type.specs.Levels.{tree_of}
use Rattle.go_type.specs.Table.{places, names}
use Rattle.go_type.specs.Underlying.{underlying}
use Rattle.go_type.specs.declared.table.TypeTable.{TypeTable}
use Rattle.go_core.specs.Assign as assigning
use Rattle.go_core.specs.CoreTree as core
use Rattle.go_core.specs.CoreView.{program_view}
use Rattle.go_core.specs.StepMaps.{map_set_step}
use Rattle.go_state.specs.TasksSeen.{targets_from}
use Rattle.go_values.specs.ValuesSeen.{value_of, values_of, memory_of}
use Rattle.go_values.specs.OperatorsSeen as seen
use Rattle.go_entries.proofs.AssignLemmas.{entry_missed, entry_goes}
use Rattle.go_entries.proofs.assign_steps.assign.entry_set.Goals as goal

pub returns-in_err-gives : goal.returns-in_err-gives
returns-in_err-gives c = record {
  value = λ e k.
      let w = c.args.c.now.table.now in
      let p = program_view c.args.p.now in
      let ts = places c.args.p.now.types in
      let r = c.args.rest in
      let us = targets_from ts r.targets.now r.from in
      let x = value_of ts c.args.x.now in
      let map = value_of ts c.args.map.now in
      let key = value_of ts c.args.key.now in
      let os = values_of ts r.operands.now in
      let vs = values_of ts r.values.now in
      let stops : TypeTable → Ty → Type 0 = λ v t. seen.Stops c.in_err-gives.field-0.0 (map_set_step (names v) t (value_of (places v) c.args.map.now) (value_of (places v) c.args.key.now) (value_of (places v) c.args.x.now) (memory_of (places v) c.args.m.now)) in
      let here : stops w (underlying (names w) (tree_of (places w) c.args.map_type)) = subst (stops w) c.underlying.ensures.tree c.in_err-gives.ensures.value in
      entry_missed p ts c.from_residual.result c.in_err-gives.field-0.0 (map_set_step p.names (underlying p.names (tree_of ts c.args.map_type)) map key x (memory_of ts c.args.m.now)) us os vs
      c.args.f.now c.args.m.now (λ g. assigning.assign_step p g (core.to_entry (tree_of ts c.args.map_type) e k ∷ us) (map ∷ key ∷ os) (x ∷ vs)) c.from_residual.ensures.1
      (λ g below s. refl) (subst (λ (v : TypeTable). stops v (underlying (names v) (tree_of (places v) c.args.map_type))) c.requires here);
}

pub returns : goal.returns
returns c = record {
  value = λ e k g below s.
      let w = c.args.c.now.table.now in
      let p = program_view c.args.p.now in
      let ts = places c.args.p.now.types in
      let r = c.args.rest in
      let us = targets_from ts r.targets.now r.from in
      let os = values_of ts r.operands.now in
      let vs = values_of ts r.values.now in
      let gives = c.in_ok-gives.gives in
      let step = λ (v : TypeTable) (t : Ty). map_set_step (names v) t (value_of (places v) c.args.map.now) (value_of (places v) c.args.key.now) (value_of (places v) c.args.x.now) (memory_of (places v) c.args.m.now) in
      let given = λ (v : TypeTable). seen.given (places v) (memory_of (places v) c.args.m.now) gives in
      let here : step w (underlying (names w) (tree_of (places w) c.args.map_type)) ≡ given w = ap (step w) (sym c.underlying.ensures.tree) ∙ c.in_ok-gives.ensures.value in
      entry_goes p ts g below s _ gives us os vs c.args.f.now c.rest_first.new.f c.args.m.now c.change.new.m
      (subst (λ (v : TypeTable). step v (underlying (names v) (tree_of (places v) c.args.map_type)) ≡ given v) c.requires here)
      (c.in_ok-change.ensures.value ts) (c.in_ok-rest_first.ensures.value ts p g);
}
