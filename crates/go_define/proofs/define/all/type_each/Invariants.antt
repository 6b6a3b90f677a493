use Rattle.std.proofs.Common.{◌<◌, drop}
use Rattle.go_type.specs.Levels.{trees_of, IdsBelow}
use Rattle.go_type.specs.Table.{size}
use Rattle.go_operands.specs.EnvView.{table_of}
use Rattle.go_calls.specs.Words.{types_of}
use Rattle.go_walk.specs.WalkView.{depth}
use Rattle.go_define.specs.FreshView.{freshes_view, FreshesBelow}
use Rattle.go_define.specs.Defining.{Defines, type_takes}
use Rattle.go_define.proofs.define.all.type_each.Given as goal

-- those that are left
abbrev pub invariant-loop-t : goal.invariant-loop-t
invariant-loop-t l = record {
  depth : 0 < depth l.walk;
  freshes : FreshesBelow (size (table_of l.walk.env)) l.freshes;
  types : IdsBelow (size (table_of l.walk.env)) l.types;
  defines : Defines (type_takes l.p (freshes_view (types_of l.walk.env) l.freshes) (trees_of (types_of l.walk.env) (drop l.t-index l.types))) (type_takes l.p (freshes_view (types_of l.initial.walk.env) l.initial.freshes) (trees_of (types_of l.initial.walk.env) l.types))
      l.initial.walk l.walk l.initial.targets.items l.targets.items l.initial.flaws.items l.flaws.items l.initial.out.items l.out.items;
}
