use Rattle.std.proofs.Common.{sym, subst, List}
use Rattle.go_type.specs.Tree.{Ty}
use Rattle.go_type.specs.Levels.{tree_of}
use Rattle.go_type.specs.Named.{NamedTy}
use Rattle.go_type.specs.Table.{places}
use Rattle.go_type.specs.Underlying.{underlying}
use Rattle.go_core.specs.Control.{over_array}
use Rattle.go_values.specs.ValuesSeen.{value_of}
use Rattle.go_state.specs.RangesFound.{CursorFound}
use Rattle.go_state.proofs.ranges.begun.over_pointer.Goals as goal

pub returns : goal.returns
returns c =
    let ts = places c.args.c.now.table.now in
    let x = value_of ts c.args.x.now in
    record {
      value = λ p g m h.
          subst (λ (ns : List NamedTy). CursorFound ts c.over_pointed.result (over_array p g (underlying ns (tree_of ts c.args.to)) x 0)) (sym h)
          (subst (λ (u : Ty). CursorFound ts c.over_pointed.result (over_array p g u x 0)) c.underlying.ensures.tree (c.over_pointed.ensures.value p g));
    }
