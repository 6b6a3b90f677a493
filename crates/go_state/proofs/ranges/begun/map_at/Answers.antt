use Rattle.std.proofs.Common.{◌∙◌, ◌∷◌, [], sym, ap, subst}
use Rattle.go_type.specs.Tree.{mapping}
use Rattle.go_core.specs.Control.{cursor_of}
use Rattle.go_core.specs.Memory as core
use Rattle.go_values.specs.ValuesSeen.{scalar_of, memory_of}
use Rattle.go_state.specs.RangesFound.{CursorFound}
use Rattle.go_state.proofs.ScalarLemmas.{map_seen}
use Rattle.go_state.proofs.ranges.begun.map_at.Goals as goal

pub returns-in-Map : goal.returns-in-Map
returns-in-Map c = record {
  value = λ ts p g k v.
      subst (λ (y : core.Scalar). CursorFound ts c.births_of.result (cursor_of p g (mapping k v) (y ∷ []) (memory_of ts c.args.m.now))) (sym (ap (scalar_of ts) c.in-Map.is ∙ map_seen ts c.in-Map.name)) (c.births_of.ensures.value ts p g);
}
