use Rattle.std.proofs.Common.{◌≡◌, ◌<◌, ◌++◌, List, map, vec_len}
use Rattle.go_type.specs.Tree.{Ty}
use Rattle.go_type.specs.Table.{size}
use Rattle.go_core.specs.CoreView.{expr_view}
use Rattle.go_operands.specs.EnvView.{table_of}
use Rattle.go_calls.specs.Words.{types_of, names_of}
use Rattle.go_walk.specs.WalkView.{depth, Keeps}
use Rattle.go_expr.specs.Raw.{raws_view, RawsBelow}
use Rattle.go_define.specs.FreshView.{freshes_view, FreshesBelow}
use Rattle.go_define.specs.Defining.{Defines, value_takes, value_cores}
use Rattle.go_define.proofs.define.all.define_each.Given as goal

-- those that are left
abbrev pub invariant-loop-fresh : goal.invariant-loop-fresh
invariant-loop-fresh l = record {
  depth : 0 < depth l.walk;
  freshes : FreshesBelow (size (table_of l.walk.env)) l.freshes;
  raws : RawsBelow (size (table_of l.walk.env)) l.raws;
  defines : Defines (value_takes (names_of l.walk.env) (freshes_view (types_of l.walk.env) l.freshes) (raws_view (types_of l.walk.env) l.raws)) (value_takes (names_of l.initial.walk.env) (freshes_view (types_of l.initial.walk.env) l.initial.freshes) (raws_view (types_of l.initial.walk.env) l.initial.raws))
      l.initial.walk l.walk l.initial.targets.items l.targets.items l.initial.flaws.items l.flaws.items l.initial.out.items l.out.items;
  values : (ts : List Ty) → Keeps (table_of l.walk.env) ts → map (expr_view ts) l.cores.items ++ value_cores (names_of l.walk.env) (freshes_view (types_of l.walk.env) l.freshes) (raws_view (types_of l.walk.env) l.raws)
      ≡ map (expr_view ts) l.initial.cores.items ++ value_cores (names_of l.initial.walk.env) (freshes_view (types_of l.initial.walk.env) l.initial.freshes) (raws_view (types_of l.initial.walk.env) l.initial.raws);
}

abbrev pub decreases-loop-fresh : goal.decreases-loop-fresh
decreases-loop-fresh l = vec_len l.freshes.items
