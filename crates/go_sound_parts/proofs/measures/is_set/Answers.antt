use Rattle.go_type.specs.Levels.{tree_of}
use Rattle.go_type.specs.Table.{places, names}
use Rattle.go_sound_parts.proofs.MeasureLemmas.{set_held}
use Rattle.go_sound_parts.proofs.measures.is_set.Goals as goal

pub returns-in-Some-known : goal.returns-in-Some-known
returns-in-Some-known c = record {
  is = λ h e.
      let w = c.args.table.now in
      let t = c.in-Some.t in
      set_held (names w) c.args.id.0 (tree_of (places w) t) c.in-Some-known.m c.in-Some.ensures.value (h t c.in-Some-known.m c.in-Some-known.ensures.is) (c.is_inside.ensures.is e);
}
