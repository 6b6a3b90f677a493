use Rattle.std.proofs.Common.{subst}
use Rattle.go_type.specs.Tree.{Ty}
use Rattle.go_type.specs.Levels.{tree_of}
use Rattle.go_type.specs.Table.{places}
use Rattle.go_type.specs.Underlying.{underlying}
use Rattle.go_core.specs.CoreView.{program_view}
use Rattle.go_core.specs.Sound.{IsMapOf}
use Rattle.go_sound_nodes.proofs.targets.entry_fits.Goals as goal

pub returns-then-gives : goal.returns-then-gives
returns-then-gives c = record {
  is = λ h.
      let q = program_view c.args.p.now in
      let ts = places c.args.p.now.types in
      let key = tree_of ts c.in-Some.entry.0 in
      (key, c.gives.ensures.is c.if-gives.true, subst (λ (u : Ty). IsMapOf (underlying q.names (tree_of ts c.args.t)) key u) (c.takes_item.ensures.is h) c.in-Some.ensures.is);
}
